-- Each public call's promise allows one result. `Learnt` is what the contract tells a caller at the arguments a.
use mathlib.Core.Path.{◌≡◌}
use Rattle.laws.proofs.Unique.{the_result}
use Rattle.choices.specs.declared.work.Work.{Work}
use Rattle.planned.proofs.planned.start.Reads as start

pub start-once : (κs a : _) (r s : Work) (x y : _) → start.Learnt κs a r x → start.Learnt κs a s y → r ≡ s
start-once κs a r s x y p q = the_result p q
