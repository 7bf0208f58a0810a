-- `queue_steps::asking::row_of` meets its contract.
use mathlib.Core.Path.{◌≡◌}
use Prim.Native.Nat.{◌+◌, ◌*◌}
use Rattle.frames.specs.Part.{most_ports}
use Rattle.laws.specs.Sets.{gathered}
use Rattle.queue_records.specs.Marks.{met}
use Rattle.queue_steps.proofs.asking.row_of.Given as goal

abbrev pub invariant-loop-t : goal.invariant-loop-t
invariant-loop-t l = l.s ≡ gathered (λ t. met l.marks (l.i * most_ports + t)) l.t
