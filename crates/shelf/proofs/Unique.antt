-- Each public call's promise allows one result, and the step's one final content of the output. `Learnt` is what the contract tells
-- a caller at the arguments a.
use mathlib.Core.Path.{◌≡◌, sym, ◌∙◌}
use Rattle.std.specs.Prelude.{Result, ℕ, List}
use Rattle.laws.proofs.Unique.{the_result}
use Rattle.refusals.specs.declared.Refusal.{Refusal}
use Rattle.refusals.proofs.Unique.{answer_unique}
use Rattle.ports.specs.declared.served.Served.{Served}
use Rattle.ports.proofs.Unique.{stepped_unique}
use Rattle.shelf.proofs.asked.sets_asked.Reads as sets-asked
use Rattle.shelf.proofs.by_value.step.Reads as step
use Rattle.shelf.proofs.by_value.unanswered.Reads as unanswered

pub sets_asked-once : (κs a : _) (r s : Result (List ℕ) Refusal) (x y : _) → sets-asked.Learnt κs a r x → sets-asked.Learnt κs a s y → r ≡ s
sets_asked-once κs a r s x y p q = answer_unique _ r s (p ∙ sym q)

pub step_once : (κs a : _) (r s : Result Served Refusal) (x y : _) → step.Learnt κs a r x → step.Learnt κs a s y
    → (r ≡ s) × (x.1.1.1.1.1.0.now ≡ y.1.1.1.1.1.0.now)
step_once κs a r s x y p q = (stepped_unique _ _ r s (p.0 ∙ sym q.0), the_result p.1 q.1)

pub unanswered-once : (κs a : _) (r s : Result Served Refusal) (x y : _) → unanswered.Learnt κs a r x → unanswered.Learnt κs a s y → r ≡ s
unanswered-once κs a r s x y p q = stepped_unique _ _ r s (p ∙ sym q)
