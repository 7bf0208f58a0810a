-- `queues::parting::part` meets its contract.
use mathlib.Core.Path.{◌≡◌}
use Prim.Native.Nat.{◌≤◌}
use lib.ListN.{length}
use Rattle.frames.specs.Part.{most_ports}
use Rattle.queues.proofs.Partings.{Parting}
use Rattle.queues.proofs.parting.part.Given as goal

abbrev pub invariant-loop-k : goal.invariant-loop-k
invariant-loop-k l = (l.kept ≤ l.k) × (length l.entries ≡ length l.initial.entries) × Parting most_ports l.initial.left l.initial.entries l.initial.leavers l.k l.kept l.left l.entries l.leavers
