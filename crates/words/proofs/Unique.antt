-- Each public call's promise allows one result, and one final content of what was lent. `Learnt` is what the contract tells a
-- caller at the arguments a.
use mathlib.Core.Path.{◌≡◌}
use mathlib.Core.Bool.{Bool}
use mathlib.Core.List.{List}
use Prim.Native.Nat.{ℕ}
use Rattle.laws.proofs.Unique.{the_result}
use Rattle.words.proofs.bits.holds.Reads as holds
use Rattle.words.proofs.bits.minus.Reads as minus
use Rattle.words.proofs.bits.with.Reads as with
use Rattle.words.proofs.bits.without.Reads as without
use Rattle.words.proofs.check.crc_bit.Reads as crc-bit
use Rattle.words.proofs.check.crc.Reads as crc
use Rattle.words.proofs.check.ByBitsCheck.of.Reads as by-bits
use Rattle.words.proofs.check.seal.Reads as seal
use Rattle.words.proofs.check.intact.Reads as intact
use Rattle.words.proofs.numbers.of_two.Reads as of_two
use Rattle.words.proofs.numbers.of_four.Reads as of_four
use Rattle.words.proofs.numbers.two_bytes.Reads as two_bytes
use Rattle.words.proofs.numbers.four_bytes.Reads as four_bytes

pub holds-once : (κs a : _) (r s : Bool) (x y : _) → holds.Learnt κs a r x → holds.Learnt κs a s y → r ≡ s
holds-once κs a r s x y p q = the_result p q

pub with_once : (κs a : _) (r s : ℕ) (x y : _) → with.Learnt κs a r x → with.Learnt κs a s y → r ≡ s
with_once κs a r s x y p q = the_result p q

pub without_once : (κs a : _) (r s : ℕ) (x y : _) → without.Learnt κs a r x → without.Learnt κs a s y → r ≡ s
without_once κs a r s x y p q = the_result p q

pub minus_once : (κs a : _) (r s : ℕ) (x y : _) → minus.Learnt κs a r x → minus.Learnt κs a s y → r ≡ s
minus_once κs a r s x y p q = the_result p q

pub of_two_once : (κs a : _) (r s : ℕ) (x y : _) → of_two.Learnt κs a r x → of_two.Learnt κs a s y → r ≡ s
of_two_once κs a r s x y p q = the_result p q

pub of-four-once : (κs a : _) (r s : ℕ) (x y : _) → of_four.Learnt κs a r x → of_four.Learnt κs a s y → r ≡ s
of-four-once κs a r s x y p q = the_result p q

pub two_bytes_once : (κs a : _) (r s : List ℕ) (x y : _) → two_bytes.Learnt κs a r x → two_bytes.Learnt κs a s y → r ≡ s
two_bytes_once κs a r s x y p q = the_result p q

pub four_bytes_once : (κs a : _) (r s : List ℕ) (x y : _) → four_bytes.Learnt κs a r x → four_bytes.Learnt κs a s y → r ≡ s
four_bytes_once κs a r s x y p q = the_result p q

pub crc_bit-once : (κs a : _) (r s : ℕ) (x y : _) → crc-bit.Learnt κs a r x → crc-bit.Learnt κs a s y → r ≡ s
crc_bit-once κs a r s x y p q = the_result p q

pub crc_once : (κs a : _) (r s : ℕ) (x y : _) → crc.Learnt κs a r x → crc.Learnt κs a s y → r ≡ s
crc_once κs a r s x y p q = the_result p q

pub intact-once : (κs g d m l a : _) (r s : Bool) (x y : _) → intact.Learnt κs g d m l a r x → intact.Learnt κs g d m l a s y → r ≡ s
intact-once κs g d m l a r s x y p q = the_result p q

pub seal_once : (κs g d m l a r s x y : _) → seal.Learnt κs g d m l a r x → seal.Learnt κs g d m l a s y → x.0.now ≡ y.0.now
seal_once κs g d m l a r s x y p q = the_result p q

pub by_bits_once : (κs a : _) (r s : ℕ) (x y : _) → by-bits.Learnt κs a r x → by-bits.Learnt κs a s y → r ≡ s
by_bits_once κs a r s x y p q = the_result p q
