-- `queue_records::records::Records::usable` meets its contract.
use Rattle.queue_records.specs.Order.{usable}
use Rattle.queue_records.proofs.records.Records.usable.Goals as goal

pub returns-then-in_order : goal.returns-then-in_order
unfolding usable
returns-then-in_order c = rw (← c.in_order.ensures, c.if-in_order.true, c.cells.ensures.0)

pub returns : goal.returns
unfolding usable
returns c = rw (← c.in_order.ensures, c.if-in_order.false)
