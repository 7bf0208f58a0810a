-- `queue_records::marks::all_met` meets its contract.
use mathlib.Core.Path.{◌≡◌}
use Rattle.laws.specs.Steps.{every}
use Rattle.queue_records.specs.Marks.{met}
use Rattle.queue_records.proofs.marks.all_met.Given as goal

abbrev pub invariant-loop-mark : goal.invariant-loop-mark
invariant-loop-mark l = l.all ≡ every (met l.marks) l.mark-index
