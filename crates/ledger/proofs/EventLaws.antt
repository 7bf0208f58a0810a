-- Which pairs are in the tables that a slot makes.
use mathlib.Core.Path.{◌≡◌, refl, sym, ap, ◌∙◌}
use mathlib.Core.Bool.{Bool, true, false, not, ◌&&◌, cond}
use mathlib.Core.List.{List}
use Prim.Native.Nat.{ℕ, zero, suc, ◌+◌, ◌-◌, ◌/◌, ◌%◌, ◌^◌, ◌<◌}
use native.Mathlib.Nat.{mod-lt, pow-suc}
use native.Mathlib.Omega.{arith}
use lib.Bits.{bit_and, bit_xor, and_shr, and_mod, xor_shr, xor_mod, and_step}
use Rattle.std.specs.Int.{from_bool}
use Rattle.std.specs.Int.Bits.{xor_add_and, and_self}
use Rattle.std.proofs.lemmas.Nat.{and_assoc}
use lib.Dec.{eqb}
use Rattle.laws.specs.Sets.{digit, has, asks}
use Rattle.laws.proofs.Rows.{row-tabled}
use Rattle.laws.proofs.Words.{has_and}
use Rattle.ledger.specs.Events.{but, meet, less}

digit-but : (a b k : ℕ) → digit (but a b) k ≡ but (digit a k) (digit b k)
digit-but a b k = ap (λ x. x % 2) (xor_shr a (bit_and a b) k) ∙ xor_mod (a / 2 ^ k) _ 1
    ∙ ap (bit_xor (digit a k)) (ap (λ x. x % 2) (and_shr a b k) ∙ and_mod (a / 2 ^ k) (b / 2 ^ k) 1)

but_bits : (x y : ℕ) → x < 2 → y < 2 → eqb (but x y) 1 ≡ (eqb x 1 && not (eqb y 1))
but_bits zero zero h l = refl
but_bits zero (suc zero) h l = refl
but_bits (suc zero) zero h l = refl
but_bits (suc zero) (suc zero) h l = refl
but_bits zero (suc (suc y)) h l = absurd (omega arith)
but_bits (suc zero) (suc (suc y)) h l = absurd (omega arith)
but_bits (suc (suc x)) y h l = absurd (omega arith)

has-but : (a b k : ℕ) → has (but a b) k ≡ (has a k && not (has b k))
has-but a b k = ap (λ d. eqb d 1) (digit-but a b k) ∙ but_bits _ _ (mod-lt (a / 2 ^ k) (omega arith)) (mod-lt (b / 2 ^ k) (omega arith))

-- what a set keeps of another's complement in a word, and what of the other, are the whole of it
two_parts : (w a b : ℕ) → a < 2 ^ w → b < 2 ^ w → bit_and a (2 ^ w - 1 - b) + bit_and a b ≡ a
two_parts zero a b h l =
    let none : a ≡ 0 = omega arith in
    rw none refl
two_parts (suc w) a b h l =
    let half : (2 ^ suc w - 1 - b) / 2 ≡ 2 ^ w - 1 - b / 2 = omega (arith, pow-suc 2 w) in
    let last : (2 ^ suc w - 1 - b) % 2 ≡ 1 - b % 2 = omega (arith, pow-suc 2 w) in
    omega (arith, and_step a (2 ^ suc w - 1 - b), and_step a b, ap (bit_and (a / 2)) half, last, two_parts w (a / 2) (b / 2) (omega (arith, pow-suc 2 w)) (omega (arith, pow-suc 2 w)))

twice : (a b : ℕ) → bit_and a (bit_and a b) ≡ bit_and a b
twice a b = sym (and_assoc b a a) ∙ ap (λ x. bit_and x b) (and_self a)

pub and_not : (w a b : ℕ) → a < 2 ^ w → b < 2 ^ w → bit_and a (2 ^ w - 1 - b) ≡ but a b
and_not w a b h l = omega (arith, two_parts w a b h l, xor_add_and a (bit_and a b), twice a b)

-- what the library makes of a truth
pub zero_or_one : (b : Bool) → from_bool b ≡ cond b 1 0
zero_or_one true = refl
zero_or_one false = refl

module _ (m : ℕ) (a b : List ℕ) (i t : ℕ) (h : i < m) where
  pub asks-meet : asks (meet m a b) i t ≡ (asks a i t && asks b i t)
  unfolding meet
  asks-meet = ap (λ s. has s t) (row-tabled m _ m i h h) ∙ has_and _ _ t

  pub asks-less : asks (less m a b) i t ≡ (asks a i t && not (asks b i t))
  unfolding less
  asks-less = ap (λ s. has s t) (row-tabled m _ m i h h) ∙ has-but _ _ t
