-- The call's promise allows one result, and one final content of the words lent. `Learnt` is what the contract tells a caller at the arguments a.
use mathlib.Core.Path.{◌≡◌, sym, ◌∙◌}
use Rattle.std.specs.Prelude.{Result}
use Rattle.refusals.specs.declared.Refusal.{Refusal}
use Rattle.refusals.proofs.Unique.{number_of_unique}
use Rattle.lent.proofs.filling.fill.Reads as fill

pub fill_once : (N g κs a : _) (r s : Result (Unit {0}) Refusal) (x y : _) → fill.Learnt N g κs a r x → fill.Learnt N g κs a s y → (r ≡ s) × (x.1.0.now ≡ y.1.0.now)
fill_once N g κs a r s x y p q = let same = number_of_unique r s (p.0 ∙ sym q.0) in (same, p.1 ∙ rw same (sym q.1))
