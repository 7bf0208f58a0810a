-- Each promise allows one result, or one final content of what was lent. `Learnt` is what the contract tells a caller at the
-- arguments a.
use mathlib.Core.Path.{◌≡◌}
use mathlib.Core.List.{List}
use Prim.Native.Nat.{ℕ}
use Rattle.laws.proofs.Unique.{the_result}
use Rattle.ports.specs.declared.state.State.{State}
use Rattle.table_bytes.proofs.states.state_in.Reads as state-in
use Rattle.table_bytes.proofs.states.state_bytes.Reads as state-bytes
use Rattle.table_bytes.proofs.table_in.Reads as table-in
use Rattle.table_bytes.proofs.put_table.Reads as put-table

pub table_in-once : (κs a : _) (r s : List ℕ) (x y : _) → table-in.Learnt κs a r x → table-in.Learnt κs a s y → r ≡ s
table_in-once κs a r s x y p q = the_result p q

pub put_table_once : (κs a r s x y : _) → put-table.Learnt κs a r x → put-table.Learnt κs a s y → x.1.0.now ≡ y.1.0.now
put_table_once κs a r s x y p q = the_result p.0 q.0

pub state_in-once : (κs a : _) (r s : State) (x y : _) → state-in.Learnt κs a r x → state-in.Learnt κs a s y → r ≡ s
state_in-once κs a r s x y p q = the_result p q

pub state_bytes-once : (κs a : _) (r s : List ℕ) (x y : _) → state-bytes.Learnt κs a r x → state-bytes.Learnt κs a s y → r ≡ s
state_bytes-once κs a r s x y p q = the_result p q
