-- `queue_records::records::Records::in_order` meets its contract.
use mathlib.Core.Path.{sym, ◌∙◌}
use native.Mathlib.Omega.{arith}
use borrow.Author.Rules.{part_to_end}
use lib.ListN.{length-drop}
use Rattle.frames.specs.Part.{most_ports}
use Rattle.queue_records.specs.Order.{most_cells, in_order}
use Rattle.queue_records.proofs.Heads.{head_known}
use Rattle.queue_records.proofs.records.Records.in_order.Goals as goal

pub slice_bounds-entries_in_order-count : goal.slice_bounds-entries_in_order-count
slice_bounds-entries_in_order-count c = omega (arith, (head_known most_ports most_cells _ (sym c.head_in_order.ensures ∙ c.if-head_in_order.true)).long)

pub slice_bounds-entries_in_order-start : goal.slice_bounds-entries_in_order-start
slice_bounds-entries_in_order-start c = slice_bounds-entries_in_order-count c

pub entries_in_order-requires : goal.entries_in_order-requires
entries_in_order-requires c =
    let known = head_known most_ports most_cells c.args.self.words.now (sym c.head_in_order.ensures ∙ c.if-head_in_order.true) in
    rw (part_to_end c.args.self.words.now 3, length-drop, c.cells.ensures.0) (omega (arith, known.long), known.cells)

pub returns-then-head_in_order : goal.returns-then-head_in_order
unfolding in_order
returns-then-head_in_order c = rw (← c.head_in_order.ensures, c.if-head_in_order.true, c.entries_in_order.ensures, c.ports.ensures.0, part_to_end c.args.self.words.now 3)

pub returns : goal.returns
unfolding in_order
returns c = rw (← c.head_in_order.ensures, c.if-head_in_order.false)
