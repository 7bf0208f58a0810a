-- `queue_records::records::Records::head_in_order` meets its contract.
use Rattle.queue_records.specs.Order.{head_in_order}
use Rattle.queue_records.proofs.records.Records.head_in_order.Goals as goal

pub returns : goal.returns
unfolding head_in_order
returns c = rw (c.ports-ports.ensures.0, c.cells-cells.ensures.0, c.held.ensures.0)
