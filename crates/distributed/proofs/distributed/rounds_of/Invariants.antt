use mathlib.Core.Path.{◌≡◌}
use Prim.Native.Nat.{◌≤◌}
use Rattle.distributed.specs.Distributed.{rounds}
use Rattle.distributed.proofs.distributed.rounds_of.Given as goal

abbrev pub invariant-loop-k : goal.invariant-loop-k
invariant-loop-k l = (l.run ≡ rounds l.shelf.state l.initial.run l.k) × (l.run.rounds ≤ l.k)
