-- Each public call's promise allows one result. `Learnt` is what the contract tells a caller at the arguments a.
use mathlib.Core.Path.{◌≡◌}
use Rattle.laws.proofs.Unique.{the_result}
use Rattle.hearing.specs.declared.Tables.{Tables}
use Rattle.hearing.proofs.counted.Reads as counted

pub counted-once : (κs a : _) (r s : Tables) (x y : _) → counted.Learnt κs a r x → counted.Learnt κs a s y → r ≡ s
counted-once κs a r s x y p q = the_result p q
