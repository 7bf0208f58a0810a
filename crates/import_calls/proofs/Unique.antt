-- Each public call's promise allows one result, and one final content of what was lent. `Learnt` is what the contract tells a
-- caller at the arguments a.
use mathlib.Core.Path.{◌≡◌}
use Prim.Native.Nat.{ℕ}
use Rattle.laws.proofs.Unique.{the_result}
use Rattle.import_calls.proofs.import_call.bellacush_import.Reads as import

pub import_once : (κs a : _) (r s : ℕ) (x y : _) → import.Learnt κs a r x → import.Learnt κs a s y
    → (r ≡ s) × (x.1.1.1.1.1.0.now ≡ y.1.1.1.1.1.0.now) × (x.1.1.1.1.1.1.0.now ≡ y.1.1.1.1.1.1.0.now)
import_once κs a r s x y p q = (the_result p.0 q.0, the_result p.1 q.1, the_result p.2 q.2)
