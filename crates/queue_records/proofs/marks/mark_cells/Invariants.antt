-- `queue_records::marks::mark_cells` meets its contract.
use mathlib.Core.Path.{◌≡◌}
use lib.ListN.{length, get_or, set}
use Rattle.frames.specs.Part.{most_ports}
use Rattle.laws.specs.Steps.{steps}
use Rattle.queue_records.specs.Entries.{cell_of}
use Rattle.queue_records.proofs.marks.mark_cells.Given as goal

abbrev pub invariant-loop-word : goal.invariant-loop-word
invariant-loop-word l = (length l.marks ≡ length l.initial.marks) × (l.marks ≡ steps (λ k s. set s (cell_of most_ports (get_or l.entries k 0)) 1) l.initial.marks l.word-index)
