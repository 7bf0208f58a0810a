-- Each public call's promise allows one result. `Learnt` is what the contract tells a caller at the arguments a.
use mathlib.Core.Path.{◌≡◌}
use Rattle.laws.proofs.Unique.{the_result}
use Rattle.choices.specs.declared.work.Run.{Run}
use Rattle.distributed.proofs.distributed.serve_rounds.Reads as serve-rounds

pub serve-rounds-once : (κs a : _) (r s : Run) (x y : _) → serve-rounds.Learnt κs a r x → serve-rounds.Learnt κs a s y → r ≡ s
serve-rounds-once κs a r s x y p q = the_result p q
