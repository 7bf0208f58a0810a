-- `queue_records::making::fill` meets its contract.
use mathlib.Core.Path.{◌≡◌}
use mathlib.Core.List.{◌++◌}
use lib.ListN.{length, drop}
use Rattle.frames.specs.Part.{most_ports}
use Rattle.queue_records.specs.Making.{fresh_entries}
use Rattle.queue_records.proofs.making.fill.Given as goal

abbrev pub invariant-loop-k : goal.invariant-loop-k
invariant-loop-k l = (length l.entries ≡ length l.initial.entries) × (l.entries ≡ fresh_entries most_ports l.k ++ drop l.k l.initial.entries)
