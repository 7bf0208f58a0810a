-- Each promise of a public function allows one result. `Learnt` is what the contract tells a caller at the arguments a.
use mathlib.Core.Path.{◌≡◌}
use mathlib.Core.List.{List}
use Prim.Native.Nat.{ℕ}
use Rattle.laws.proofs.Unique.{the_result}
use Rattle.ports.specs.declared.state.State.{State}
use Rattle.shown.proofs.at.Reads as at
use Rattle.shown.proofs.due_at.Reads as due_at
use Rattle.shown.proofs.rows.Reads as rows

pub at_once : (κs a : _) (r s : State) (x y : _) → at.Learnt κs a r x → at.Learnt κs a s y → r ≡ s
at_once κs a r s x y p q = the_result p q

pub due_at_once : (κs a : _) (r s : State) (x y : _) → due_at.Learnt κs a r x → due_at.Learnt κs a s y → r ≡ s
due_at_once κs a r s x y p q = the_result p q

pub rows_once : (κs a : _) (r s : List ℕ) (x y : _) → rows.Learnt κs a r x → rows.Learnt κs a s y → r ≡ s
rows_once κs a r s x y p q = the_result p q
