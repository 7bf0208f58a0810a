-- `queue_entries::counting::count_those` meets its contract.
use mathlib.Core.Path.{◌≡◌}
use Prim.Native.Nat.{◌≤◌}
use lib.ListN.{take}
use Rattle.std.specs.List.{count_by}
use Rattle.frames.specs.Part.{most_ports}
use Rattle.queue_records.specs.Entries.{of_pair}
use Rattle.queue_entries.proofs.counting.count_those.Given as goal

abbrev pub invariant-loop-word : goal.invariant-loop-word
invariant-loop-word l = (l.cells ≤ l.word-index) × (l.cells ≡ count_by (of_pair most_ports l.i.0 l.t.0) (take l.word-index l.entries))
