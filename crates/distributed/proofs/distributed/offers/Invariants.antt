use mathlib.Core.Path.{◌≡◌}
use Rattle.distributed.specs.Offers.{offering}
use Rattle.distributed.proofs.distributed.offers.Given as goal

abbrev pub invariant-loop-t : goal.invariant-loop-t
invariant-loop-t l = l.offered ≡ offering l.shelf.state l.live l.asked l.counts l.initial.offered l.t
