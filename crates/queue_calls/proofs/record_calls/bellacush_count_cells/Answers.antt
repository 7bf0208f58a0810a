-- `queue_calls::record_calls::bellacush_count_cells` meets its contract.
use mathlib.Core.Path.{ap}
use native.Mathlib.Omega.{arith}
use Prim.Native.Nat.{ℕ}
use Rattle.refusals.specs.Numbers.{Answer}
use Rattle.frames.specs.Part.{most_ports}
use Rattle.queue_records.specs.Order.{most_cells}
use Rattle.queue_entries.proofs.Counts.{count_few}
use Rattle.queue_calls.proofs.record_calls.bellacush_count_cells.Goals as goal

pub overflow_cast-result : goal.overflow_cast-result
overflow_cast-result c =
    let a = c.args in
    omega (arith, ap (λ (r : Answer ℕ). r.fields) c.in-Ok.ensures, count_few most_ports most_cells a.records.now a.initiator a.target)

pub overflow_mul-result : goal.overflow_mul-result
overflow_mul-result c =
    let a = c.args in
    omega (arith, ap (λ (r : Answer ℕ). r.fields) c.in-Ok.ensures, count_few most_ports most_cells a.records.now a.initiator a.target)
