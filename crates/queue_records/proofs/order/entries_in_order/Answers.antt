-- `queue_records::order::entries_in_order` meets its contract.
use native.Mathlib.Nat.{lt_of_lt_of_le}
use Rattle.frames.specs.Part.{most_ports}
use Rattle.queue_records.specs.Order.{most_cells}
use Rattle.queue_records.proofs.Cells.{unplaced, in_pool, by_marks}
use Rattle.queue_records.proofs.order.entries_in_order.Goals as goal

pub mark_cells-requires : goal.mark_cells-requires
mark_cells-requires c = λ k h. lt_of_lt_of_le (in_pool most_ports c.args.ports c.args.cells c.args.entries.now c.requires.0 c.all_placed.ensures c.if-all_placed.true k h) c.requires.1

pub returns-then-all_placed : goal.returns-then-all_placed
returns-then-all_placed c =
    by_marks most_ports c.args.ports c.args.cells c.args.entries.now c.requires.0 c.all_placed.ensures c.if-all_placed.true
    most_cells c.requires.1 c.mark_cells.ensures c.all_met.ensures

pub returns : goal.returns
returns c = unplaced most_ports c.args.ports c.args.cells c.args.entries.now c.requires.0 c.all_placed.ensures c.if-all_placed.false
