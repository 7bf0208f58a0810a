use mathlib.Core.Path.{◌≡◌}
use lib.ListN.{get_or}
use Rattle.laws.specs.Steps.{steps}
use Rattle.distributed.specs.Offers.{accept}
use Rattle.distributed.proofs.distributed.round.Given as goal

abbrev pub invariant-loop-i : goal.invariant-loop-i
invariant-loop-i l = l.current ≡ steps (λ k. accept l.shelf.state l.counts (get_or l.offered k 0) k) l.initial.current l.i
