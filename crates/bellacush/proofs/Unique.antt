-- The call's promise allows one result, and one final content of what was lent. `Learnt` is what the contract tells a caller at
-- the arguments a.
use mathlib.Core.Path.{◌≡◌}
use Prim.Native.Nat.{ℕ}
use Rattle.laws.proofs.Unique.{the_result}
use Rattle.bellacush.proofs.fresh_call.bellacush_fresh.Reads as fresh
use Rattle.bellacush.proofs.slot_call.bellacush_slot.Reads as slot
use Rattle.bellacush.proofs.slot_call.finish_call.Reads as finish

pub fresh-once : (κs a : _) (r s : ℕ) (x y : _) → fresh.Learnt κs a r x → fresh.Learnt κs a s y → (r ≡ s) × (x.1.1.1.0.now ≡ y.1.1.1.0.now)
fresh-once κs a r s x y p q = (the_result p.0 q.0, the_result p.1 q.1)

pub slot_once : (κs a : _) (r s : ℕ) (x y : _) → slot.Learnt κs a r x → slot.Learnt κs a s y
    → (r ≡ s) × (x.0.now ≡ y.0.now) × (x.1.1.1.1.1.1.0.now ≡ y.1.1.1.1.1.1.0.now) × (x.1.1.1.1.1.0.now ≡ y.1.1.1.1.1.0.now)
slot_once κs a r s x y p q = (the_result p.0 q.0, the_result p.1 q.1, the_result p.2 q.2, the_result p.3 q.3)

pub finish_call_once : (κs a : _) (r s : ℕ) (x y : _) → finish.Learnt κs a r x → finish.Learnt κs a s y
    → (r ≡ s) × (x.1.0.now ≡ y.1.0.now) × (x.1.1.0.now ≡ y.1.1.0.now)
finish_call_once κs a r s x y p q = (the_result p.0 q.0, the_result p.1 q.1, the_result p.2 q.2)
