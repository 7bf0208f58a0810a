-- Words as sets, over every width w: what the code's shifts and masks come to, and which digits they leave.
use mathlib.Core.Path.{◌≡◌, refl, sym, ap, ap₂, ◌∙◌}
use mathlib.Core.Bool.{not, ◌&&◌}
use Prim.Native.Nat.{ℕ, zero, suc, min, ◌+◌, ◌-◌, ◌*◌, ◌/◌, ◌%◌, ◌^◌, ◌≤◌, ◌<◌}
use native.Mathlib.Nat.{mod-lt, one-mul, div-one, pow-suc, mul_comm, div-div-eq-div-mul, lt_of_lt_of_le, div-eq_of_lt, le_of_suc-le-suc, not-suc-le-zero}
use native.Mathlib.Decide.{dec_lt}
use native.Mathlib.Omega.{arith}
use lib.Dec.{eqb}
use lib.Pow.{shl_exact, pow-add, pow_mono, shr-shr, mod-mod-pow, field, high, low}
use lib.Bits.{bit_and, bit_or, and_high, and_shr, and_step, and_le_l, or_zero_l}
use lib.Count.{count_trailing_zeros, under}
use Rattle.laws.specs.Sets.{digit, has, with, without}

-- 1 moved to place k is not cut off
pub single : (w k : ℕ) → k < w → (1 * 2 ^ k) % 2 ^ w ≡ 2 ^ k
single w k l = shl_exact 1 k w (omega arith) (omega arith) ∙ one-mul (2 ^ k)

pub or_puts : (w s k : ℕ) → k < w → bit_or s ((1 * 2 ^ k) % 2 ^ w) ≡ with s k
or_puts w s k l = ap (bit_or s) (single w k l)

-- a mask of one digit, and its removal
and_single : (s k : ℕ) → bit_and s (2 ^ k) ≡ digit s k * 2 ^ k
and_single s k = ap (bit_and s) (omega (arith, pow-add 2 1 k)) ∙ and_high s 1 k

pub and_clears : (w s k : ℕ) → k < w → s - bit_and s ((1 * 2 ^ k) % 2 ^ w) ≡ without s k
and_clears w s k l = ap (λ x. s - x) (ap (bit_and s) (single w k l) ∙ and_single s k)

-- what is not in the set of k alone
pub minus_one : (s k : ℕ) → s - bit_and s (with 0 k) ≡ without s k
minus_one s k = ap (λ x. s - x) (ap (bit_and s) (or_zero_l (2 ^ k)) ∙ and_single s k)

-- ---- which digits are left

digit_and : (a b k : ℕ) → digit (bit_and a b) k ≡ min (digit a k) (digit b k)
digit_and a b k = rw (and_shr, and_step) (omega arith)

min_bits : (x y : ℕ) → x < 2 → y < 2 → eqb (min x y) 1 ≡ (eqb x 1 && eqb y 1)
min_bits zero y h l = let e : min 0 y ≡ 0 = omega arith in rw e
min_bits (suc zero) zero h l = refl
min_bits (suc zero) (suc zero) h l = refl
min_bits (suc zero) (suc (suc y)) h l = absurd (omega arith)
min_bits (suc (suc x)) y h l = absurd (omega arith)

pub has_and : (a b k : ℕ) → has (bit_and a b) k ≡ (has a k && has b k)
has_and a b k = ap (λ d. eqb d 1) (digit_and a b k) ∙ min_bits _ _ (mod-lt (a / 2 ^ k) (omega arith)) (mod-lt (b / 2 ^ k) (omega arith))

digit_zero : (s : ℕ) → digit s 0 ≡ s % 2
digit_zero s = ap (λ x. x % 2) (div-one s)

pub digit_suc : (s k : ℕ) → digit s (suc k) ≡ digit (s / 2) k
digit_suc s k = rw (pow-suc, mul_comm, ← div-div-eq-div-mul)

-- what is in s and not in o
low_rest : (s a x m : ℕ) → s % 2 ≡ x → m ≤ x → a ≤ s / 2 → (s - (a * 2 + m)) % 2 ≡ x - m
low_rest s a x m e h l = omega arith

digit_rest : (s o k : ℕ) → digit (s - bit_and s o) k ≡ digit s k - min (digit s k) (digit o k)
digit_rest s o zero = simp div-one (rw (and_step s o)
    (low_rest s (bit_and (s / 2) (o / 2)) (s % 2) (min (s % 2) (o % 2)) refl (omega arith) (and_le_l (s / 2) (o / 2))))
digit_rest s o (suc k) =
    let h : (s - bit_and s o) / 2 ≡ s / 2 - bit_and (s / 2) (o / 2) = omega (arith, and_step s o, and_le_l (s / 2) (o / 2)) in
    digit_suc _ k ∙ ap (λ x. digit x k) h ∙ digit_rest (s / 2) (o / 2) k ∙ ap₂ (λ x y. x - min x y) (sym (digit_suc s k)) (sym (digit_suc o k))

rest_bits : (x y : ℕ) → x < 2 → y < 2 → eqb (x - min x y) 1 ≡ (eqb x 1 && not (eqb y 1))
rest_bits zero zero h l = refl
rest_bits zero (suc zero) h l = refl
rest_bits (suc zero) zero h l = refl
rest_bits (suc zero) (suc zero) h l = refl
rest_bits zero (suc (suc y)) h l = absurd (omega arith)
rest_bits (suc zero) (suc (suc y)) h l = absurd (omega arith)
rest_bits (suc (suc x)) y h l = absurd (omega arith)

pub has_rest : (s o k : ℕ) → has (s - bit_and s o) k ≡ (has s k && not (has o k))
has_rest s o k = ap (λ d. eqb d 1) (digit_rest s o k) ∙ rest_bits _ _ (mod-lt (s / 2 ^ k) (omega arith)) (mod-lt (o / 2 ^ k) (omega arith))

pub digit_past : (s n k : ℕ) → s < 2 ^ n → n ≤ k → digit s k ≡ 0
digit_past s n k h l = ap (λ x. x % 2) (div-eq_of_lt (lt_of_lt_of_le h (pow_mono l)))

pub digit_shift : (s g k : ℕ) → digit (s / 2 ^ g) k ≡ digit s (g + k)
digit_shift s g k = ap (λ x. x % 2) (shr-shr s g k)

pub digit_below : (s n k : ℕ) → k < n → digit (s % 2 ^ n) k ≡ digit s k
digit_below s n k h =
    let e : n ≡ n - k - 1 + 1 + k = omega arith in
    rw e (ap (λ x. x % 2) (field s (n - k - 1 + 1) k) ∙ mod-mod-pow (s / 2 ^ k) (n - k - 1) 1)

-- two words side by side, the lower m digits wide
module _ (hi m lo : ℕ) (h : lo < 2 ^ m) where
  pub digit_low : (k : ℕ) → k < m → digit (hi * 2 ^ m + lo) k ≡ digit lo k
  digit_low k l = sym (digit_below _ m k l) ∙ ap (λ x. digit x k) (low hi m h)

  pub digit-high : (k : ℕ) → digit (hi * 2 ^ m + lo) (m + k) ≡ digit hi k
  digit-high k = sym (digit_shift _ m k) ∙ ap (λ x. digit x k) (high hi m h)

-- below the trailing zeros stands no digit, and above them the first
pub first_digit : (w s : ℕ) → (s ≡ 0 → ⊥) → s < 2 ^ w
    → (digit s (count_trailing_zeros w s) ≡ 1) × ((k : ℕ) → k < count_trailing_zeros w s → digit s k ≡ 0)
unfolding count_trailing_zeros
first_digit zero s f h = absurd (f (omega arith))
first_digit (suc w) s f h = go (s % 2) refl (first_digit w (s / 2))
  where
    t : ℕ
    t = count_trailing_zeros w (s / 2)

    below : s % 2 ≡ 0 → ((k : ℕ) → k < t → digit (s / 2) k ≡ 0) → (k : ℕ) → k < suc t → digit s k ≡ 0
    below e r zero l = digit_zero s ∙ e
    below e r (suc k) l = digit_suc s k ∙ r k (le_of_suc-le-suc l)

    go : (d : ℕ) → s % 2 ≡ d → ((s / 2 ≡ 0 → ⊥) → s / 2 < 2 ^ w → (digit (s / 2) t ≡ 1) × ((k : ℕ) → k < t → digit (s / 2) k ≡ 0))
        → (digit s (under d t) ≡ 1) × ((k : ℕ) → k < under d t → digit s k ≡ 0)
    go zero e r = let p = r (λ z. f (omega arith)) (omega arith) in (digit_suc s t ∙ p.0, below e p.1)
    go (suc d) e r = (digit_zero s ∙ omega arith, λ k l. absurd (not-suc-le-zero l))

-- the first digit of a word of w stands below w
pub trailing_below : (w s : ℕ) → 0 < s → s < 2 ^ w → count_trailing_zeros w s < w
trailing_below w s p h = go (dec_lt (count_trailing_zeros w s) w)
  where
    go : Dec (count_trailing_zeros w s < w) → count_trailing_zeros w s < w
    go (yes l) = l
    go (no l) =
        let none : digit s (count_trailing_zeros w s) ≡ 0 = digit_past s w (count_trailing_zeros w s) h (omega arith) in
        absurd (omega (arith, (first_digit w s (λ e. omega arith) h).0))
