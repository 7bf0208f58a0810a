-- Each call's promise allows one result, or one final content of what was lent. `Learnt` is what the contract tells a caller at the
-- arguments a.
use mathlib.Core.Path.{◌≡◌}
use Prim.Native.Nat.{ℕ}
use Rattle.laws.proofs.Unique.{the_result}
use Rattle.measured.proofs.measured_crc.Reads as crc
use Rattle.measured.proofs.measured_long_crc.Reads as long-crc
use Rattle.measured.proofs.measured_checks.Reads as checks
use Rattle.measured.proofs.central_rule.measured_plain.Reads as plain
use Rattle.measured.proofs.central_rule.measured_columns.Reads as columns

pub crc_once : (κs a : _) (r s : ℕ) (x y : _) → crc.Learnt κs a r x → crc.Learnt κs a s y → r ≡ s
crc_once κs a r s x y p q = the_result p q

pub long_crc_once : (κs a : _) (r s : ℕ) (x y : _) → long-crc.Learnt κs a r x → long-crc.Learnt κs a s y → r ≡ s
long_crc_once κs a r s x y p q = the_result p q

pub checks_once : (κs a : _) (r s : ℕ) (x y : _) → checks.Learnt κs a r x → checks.Learnt κs a s y → r ≡ s
checks_once κs a r s x y p q = the_result p q

pub plain_once : (κs a r s x y : _) → plain.Learnt κs a r x → plain.Learnt κs a s y → x.1.1.1.1.0.now ≡ y.1.1.1.1.0.now
plain_once κs a r s x y p q = the_result p q

pub columns-once : (κs a r s x y : _) → columns.Learnt κs a r x → columns.Learnt κs a s y → x.1.1.1.1.0.now ≡ y.1.1.1.1.0.now
columns-once κs a r s x y p q = the_result p q
