-- The public call's promise allows one result, and one final content of what was lent. `Learnt` is what the contract tells a caller at
-- the arguments a.
use mathlib.Core.Path.{◌≡◌, sym, ◌∙◌}
use Rattle.std.specs.Prelude.{Result}
use Rattle.laws.proofs.Unique.{the_result}
use Rattle.refusals.specs.declared.Refusal.{Refusal}
use Rattle.ports.specs.declared.served.Served.{Served}
use Rattle.ports.proofs.Unique.{stepped_unique}
use Rattle.queues.proofs.serving.slot.Reads as slot

pub slot_once : (κs a : _) (r s : Result Served Refusal) (x y : _) → slot.Learnt κs a r x → slot.Learnt κs a s y
    → (r ≡ s) × (x.0.now ≡ y.0.now) × (x.1.1.1.1.1.0.now ≡ y.1.1.1.1.1.0.now)
slot_once κs a r s x y p q = (stepped_unique _ _ r s (p.0 ∙ sym q.0), the_result p.1 q.1, the_result p.2 q.2)
