-- `queue_records::order::each_placed` meets its contract.
use mathlib.Core.Path.{◌≡◌}
use lib.ListN.{get_or}
use Rattle.frames.specs.Part.{most_ports}
use Rattle.laws.specs.Steps.{every}
use Rattle.queue_records.specs.Order.{placed}
use Rattle.queue_records.proofs.order.each_placed.Given as goal

abbrev pub invariant-loop-word : goal.invariant-loop-word
invariant-loop-word l = l.all ≡ every (λ k. placed most_ports l.ports l.cells (get_or l.entries k 0)) l.word-index
