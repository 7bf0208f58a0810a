use Rattle.frames.specs.Part.{most_ports}
use mathlib.Core.Path.{◌≡◌}
use Rattle.laws.specs.Sets.{column, tabled}
use Rattle.distributed.proofs.distributed.askers.Given as goal

abbrev pub invariant-loop-t : goal.invariant-loop-t
invariant-loop-t l = l.asked ≡ tabled most_ports (column l.live l.n) l.t
