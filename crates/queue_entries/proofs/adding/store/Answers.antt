-- `queue_entries::adding::store` meets its contract.
use Rattle.queue_records.specs.Order.{cell_len}
use Rattle.queue_records.proofs.Pools.{copied_in}
use Rattle.queue_entries.proofs.adding.store.Goals as goal

pub returns : goal.returns
returns c = rw c.copy_from_slice.ensures.after (copied_in cell_len c.args.x c.args.pool.now c.args.cell.now)
