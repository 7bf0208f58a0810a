-- The call's promise allows one result, and one final content of each thing lent. `Learnt` is what the contract tells a caller at the arguments a.
use mathlib.Core.Path.{◌≡◌, sym, ◌∙◌}
use Rattle.laws.proofs.Unique.{the_result}
use Rattle.std.specs.Prelude.{Result}
use Rattle.refusals.specs.declared.Refusal.{Refusal}
use Rattle.refusals.proofs.Unique.{answer_unique}
use Rattle.salvages.specs.declared.whole.Salvaged.{Salvaged}
use Rattle.salvages.proofs.whole.salvage.Reads as salvage

pub salvage_once : (κs a : _) (r s : Result Salvaged Refusal) (x y : _) → salvage.Learnt κs a r x → salvage.Learnt κs a s y
    → (r ≡ s) × (x.1.0.now ≡ y.1.0.now) × (x.1.1.0.now ≡ y.1.1.0.now)
salvage_once κs a r s x y p q = (answer_unique _ r s (p.0 ∙ sym q.0), the_result p.1 q.1, the_result p.2 q.2)
