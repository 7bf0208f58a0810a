-- The public call's promise allows one result. `Learnt` is what the contract tells a caller at the arguments a.
use mathlib.Core.Path.{◌≡◌, sym, ◌∙◌}
use Rattle.std.specs.Prelude.{Result}
use Rattle.refusals.specs.declared.Refusal.{Refusal}
use Rattle.ports.specs.declared.served.Served.{Served}
use Rattle.ports.proofs.Unique.{stepped_unique}
use Rattle.queue_steps.proofs.stepping.step.Reads as step

pub step_once : (κs a : _) (r s : Result Served Refusal) (x y : _) → step.Learnt κs a r x → step.Learnt κs a s y → r ≡ s
step_once κs a r s x y p q = stepped_unique _ _ r s (p ∙ sym q)
