-- `queues::moving::show` meets its contract.
use mathlib.Core.Path.{◌≡◌}
use Prim.Native.Nat.{◌+◌, ◌*◌, ◌-◌}
use native.Mathlib.Omega.{arith}
use Rattle.queue_records.specs.Order.{cell_len}
use Rattle.queue_records.specs.Queue.{cell_at}
use Rattle.queue_records.proofs.Pools.{copied_in}
use Rattle.queues.proofs.moving.show.Goals as goal

pub returns : goal.returns
returns c =
    let pool = c.args.pool.now in
    let size : c.args.x * cell_len + cell_len - c.args.x * cell_len ≡ cell_len = omega arith in
    rw (c.copy_from_slice.ensures.after, size) (copied_in cell_len c.args.t c.args.out.now (cell_at cell_len pool c.args.x))
