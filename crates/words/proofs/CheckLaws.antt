-- The check: the catalogue's value, that a check is two bytes, and that bytes are intact exactly if they are checked bytes.
use mathlib.Core.Path.{◌≡◌, refl, sym, ◌∙◌}
use mathlib.Core.Bool.{Bool, true, false, cond}
use mathlib.Core.List.{List, [], ◌∷◌, ◌++◌}
use Prim.Native.Nat.{ℕ, ◌+◌, ◌*◌, ◌%◌, ◌-◌, ◌≤◌, ◌<◌}
use native.Mathlib.Nat.{mod-lt}
use native.Mathlib.Omega.{arith}
use borrow.Author.Tests.{eq-eqb, eqb-true, le-leb, leb-true}
use lib.Bits.{bit_xor, xor_lt}
use lib.Dec.{ltb, leb, lit<}
use lib.ListN.{length, take, take-append-drop, length-append, length-drop}
use lib.Seq.{take_all, take_at, drop_at}
use Rattle.std.specs.Prelude.{fold}
use Rattle.laws.specs.Bytes.{Bytes, big_endian, number}
use Rattle.laws.specs.Steps.{steps}
use Rattle.laws.proofs.Bytes.{length_big, number_big, big_number, bytes_drop}
use Rattle.laws.proofs.Tests.{both, every}
use Rattle.words.specs.Check.{crc_bit, crc_byte, crc_from, crc_of, checked, front, last_two, sealed, intact}

-- "123456789" gives 0x29B1, and the high byte follows first
abbrev digits : List ℕ
digits = 49 ∷ 50 ∷ 51 ∷ 52 ∷ 53 ∷ 54 ∷ 55 ∷ 56 ∷ 57 ∷ []

check-value : checked digits ≡ digits ++ (0x29 ∷ 0xB1 ∷ [])
unfolding crc_from crc_byte crc_bit steps big_endian
check-value = refl

pub crc_is_fold : (s : List ℕ) (c : ℕ) → crc_from c s ≡ fold crc_byte c s
unfolding crc_from
crc_is_fold [] c = refl
crc_is_fold (b ∷ s) c = crc_is_fold s (crc_byte c b)

bit_small : (c : ℕ) → crc_bit c < 0x10000
unfolding crc_bit
bit_small c = either (ltb c 0x8000)
  where
    shifted : c * 2 % 0x10000 < 0x10000
    shifted = mod-lt (c * 2) (lit< tt)

    either : (b : Bool) → cond b (c * 2 % 0x10000) (bit_xor (c * 2 % 0x10000) 0x1021) < 0x10000
    either true = shifted
    either false = xor_lt 16 (c * 2 % 0x10000) 0x1021 shifted (lit< tt)

pub from_small : (s : List ℕ) (c : ℕ) → c < 0x10000 → crc_from c s < 0x10000
unfolding crc_from crc_byte steps
from_small [] c h = h
from_small (b ∷ s) c h = from_small s (crc_byte c b) (bit_small _)

pub crc_small : (s : List ℕ) → crc_of s < 0x10000
crc_small s = from_small s 0xFFFF (lit< tt)

pub length_checked : (s : List ℕ) → length (checked s) ≡ length s + 2
length_checked s = length-append s _ ∙ rw (length_big 2)

-- whatever stood in the last two bytes
pub sealed-over : (s : List ℕ) (a b : ℕ) → sealed (s ++ (a ∷ b ∷ [])) ≡ checked s
unfolding sealed
sealed-over s a b =
    let long : length (s ++ (a ∷ b ∷ [])) ≡ length s + 2 = length-append s _ in
    let front_long : length (s ++ (a ∷ b ∷ [])) - 2 ≡ length s = omega arith in
    rw (le-leb 2 (length (s ++ (a ∷ b ∷ []))) (omega arith), front_long, take_at s (a ∷ b ∷ []) (length s) refl)

-- what is checked is intact
pub checked-intact : (s : List ℕ) → intact (checked s) ≡ true
unfolding intact
checked-intact s =
    let check = big_endian 2 (crc_of s) in
    let long = length_checked s in
    let all : length (checked s) - 2 ≡ length s = omega arith in
    every (le-leb 2 (length (checked s)) (omega arith))
    (rw (all, take_at s check (length s) refl, drop_at s check (length s) refl, number_big 2 (crc_of s) (crc_small s)) (eq-eqb (crc_of s) (crc_of s) refl))

-- so is what is sealed
pub sealed-intact : (s : List ℕ) → 2 ≤ length s → intact (sealed s) ≡ true
unfolding sealed
sealed-intact s two = rw (le-leb 2 (length s) two) (checked-intact (front s))

-- and what is intact is its front, checked
pub intact-checked : (s : List ℕ) → Bytes s → intact s ≡ true → s ≡ checked (front s)
unfolding intact
intact-checked s bytes e =
    let at = length s - 2 in
    let end = last_two s in
    let p = both (leb 2 (length s)) _ e in
    let least = leb-true 2 (length s) p.0 in
    let two : length end ≡ 2 = length-drop at s ∙ omega arith in
    let all : take 2 end ≡ end = take_all 2 end (omega arith) in
    let check : big_endian 2 (crc_of (front s)) ≡ end =
    rw (← eqb-true (number end) (crc_of (front s)) p.1) (rw all at (big_number end (bytes_drop at s bytes) 2 (omega arith))) in
    sym (take-append-drop at s) ∙ rw check
