-- Each public call's promise allows one result. `Learnt` is what the contract tells a caller at the arguments a.
use mathlib.Core.Path.{◌≡◌}
use Prim.Native.Nat.{ℕ}
use Rattle.laws.proofs.Unique.{the_result}
use Rattle.long_check.proofs.check.long_crc.Reads as long-crc
use Rattle.long_check.proofs.check.ByTablesCheck.of.Reads as by-tables

pub long_crc_once : (κs a : _) (r s : ℕ) (x y : _) → long-crc.Learnt κs a r x → long-crc.Learnt κs a s y → r ≡ s
long_crc_once κs a r s x y p q = the_result p q

pub by_tables_once : (κs a : _) (r s : ℕ) (x y : _) → by-tables.Learnt κs a r x → by-tables.Learnt κs a s y → r ≡ s
by_tables_once κs a r s x y p q = the_result p q
