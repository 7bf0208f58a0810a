use Rattle.std.proofs.Common.{◌≡◌, get_or}
use lib.Count.{ones}
use Rattle.laws.specs.Sets.{tabled}
use Rattle.frames.specs.Part.{most_ports}
use Rattle.choices.proofs.sets.sizes.Given as goal

abbrev pub invariant-loop-i : goal.invariant-loop-i
invariant-loop-i l = l.counts ≡ tabled most_ports (λ k. ones (get_or l.rows k 0)) l.i
