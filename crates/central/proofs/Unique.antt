-- Each public call's promise allows one result. `Learnt` is what the contract tells a caller at the arguments a.
use mathlib.Core.Path.{◌≡◌}
use Rattle.laws.proofs.Unique.{the_result}
use Rattle.choices.specs.declared.work.Work.{Work}
use Rattle.central.proofs.central.serve_targets.Reads as serve-targets
use Rattle.central.proofs.diagonal.take_diagonal.Reads as take-diagonal

pub serve-targets-once : (κs a : _) (r s : Work) (x y : _) → serve-targets.Learnt κs a r x → serve-targets.Learnt κs a s y → r ≡ s
serve-targets-once κs a r s x y p q = the_result p q

pub take_diagonal_once : (κs a : _) (r s : Work) (x y : _) → take-diagonal.Learnt κs a r x → take-diagonal.Learnt κs a s y → r ≡ s
take_diagonal_once κs a r s x y p q = the_result p q
