-- Each call's promise allows one result, and one final content of what was lent. `Learnt` is what the contract tells a caller at the
-- arguments a.
use mathlib.Core.Path.{◌≡◌}
use Prim.Native.Nat.{ℕ}
use Rattle.laws.proofs.Unique.{the_result}
use Rattle.queue_calls.proofs.record_calls.bellacush_new_queues.Reads as new-queues
use Rattle.queue_calls.proofs.record_calls.bellacush_add_cell.Reads as add-cell
use Rattle.queue_calls.proofs.record_calls.bellacush_count_cells.Reads as count-cells
use Rattle.queue_calls.proofs.slot_call.bellacush_queue_slot.Reads as queue-slot

pub new_queues_once : (κs a : _) (r s : ℕ) (x y : _) → new-queues.Learnt κs a r x → new-queues.Learnt κs a s y → (r ≡ s) × (x.0.now ≡ y.0.now)
new_queues_once κs a r s x y p q = (the_result p.0 q.0, the_result p.1 q.1)

pub add_cell_once : (κs a : _) (r s : ℕ) (x y : _) → add-cell.Learnt κs a r x → add-cell.Learnt κs a s y
    → (r ≡ s) × (x.0.now ≡ y.0.now) × (x.1.1.1.1.0.now ≡ y.1.1.1.1.0.now)
add_cell_once κs a r s x y p q = (the_result p.0 q.0, the_result p.1 q.1, the_result p.2 q.2)

pub count_cells_once : (κs a : _) (r s : ℕ) (x y : _) → count-cells.Learnt κs a r x → count-cells.Learnt κs a s y → r ≡ s
count_cells_once κs a r s x y p q = the_result p q

pub queue_slot_once : (κs a : _) (r s : ℕ) (x y : _) → queue-slot.Learnt κs a r x → queue-slot.Learnt κs a s y
    → (r ≡ s) × (x.0.now ≡ y.0.now) × (x.1.1.1.1.1.1.0.now ≡ y.1.1.1.1.1.1.0.now) × (x.1.1.1.0.now ≡ y.1.1.1.0.now) × (x.1.1.1.1.1.0.now ≡ y.1.1.1.1.1.0.now)
queue_slot_once κs a r s x y p q = (the_result p.0 q.0, the_result p.1 q.1, the_result p.2 q.2, the_result p.3 q.3, the_result p.4 q.4)
