-- The public call's promise allows one result. `Learnt` is what the contract tells a caller at the arguments a.
use mathlib.Core.Path.{◌≡◌}
use mathlib.Core.List.{List}
use Prim.Native.Nat.{ℕ}
use Rattle.laws.proofs.Unique.{the_result}
use Rattle.columns.proofs.serving.serve_columns.Reads as serve-columns

pub serve-columns-once : (κs a : _) (r s : List ℕ) (x y : _) → serve-columns.Learnt κs a r x → serve-columns.Learnt κs a s y → r ≡ s
serve-columns-once κs a r s x y p q = the_result p q
