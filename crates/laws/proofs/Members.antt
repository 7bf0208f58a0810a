-- Who is in a set, and which pairs are in a table.
use mathlib.Core.Path.{◌≡◌, refl, sym, ap, ap₂, ◌∙◌}
use mathlib.Core.Logic.{◌⊎◌, inl, inr, ⊎_elim}
use mathlib.Core.Bool.{Bool, true, false, not, ◌&&◌, ◌||◌, cond, or-true, true≢false}
use mathlib.Core.List.{List}
use Prim.Native.Nat.{ℕ, zero, suc, min, ◌-◌, ◌*◌, ◌/◌, ◌%◌, ◌^◌, ◌≤◌, ◌<◌}
use native.Mathlib.Nat.{div-mul-le_self, mod-le, mod-lt, mul_assoc, mul-le-mul_right, pow-suc, zero-div, le_trans}
use native.Mathlib.Decide.{dec_lt, ℕ_discrete}
use native.Mathlib.Omega.{arith}
use lib.Bits.{bit_and, bit_or, and_self, and_step, or_shr, or_mod}
use lib.Count.{count_trailing_zeros, under}
use lib.Dec.{eqb, eqb-zero-suc, eqb-suc-zero, eqb-suc-suc}
use lib.ListN.{length, get_or, set, replicate, get_or-eq_default, length-set}
use lib.Pow.{pow_pos}
use lib.Seq.{get_or-set_same, get_or-set_other, set_out}
use borrow.Author.Tests.{eqb-true, eq-eqb}
use Rattle.laws.specs.Sets.{digit, has, with, without, gathered, asks, tabled}
use Rattle.laws.proofs.Tests.{either, same, arms}
use Rattle.laws.proofs.Rows.{no_bits}
use Rattle.laws.proofs.Steps.{kept}
use Rattle.laws.proofs.Words.{digit_suc, digit_past, digit_below}

-- ---- the digits of a word

digit_le : (s k : ℕ) → digit s k * 2 ^ k ≤ s
digit_le s k = le_trans (mul-le-mul_right (2 ^ k) (mod-le (s / 2 ^ k) 2)) (div-mul-le_self s (2 ^ k))

digit_none : (k : ℕ) → digit 0 k ≡ 0
digit_none k = ap (λ x. x % 2) (zero-div (2 ^ k))

digit_power : (k j : ℕ) → digit (2 ^ k) j ≡ cond (eqb j k) 1 0
digit_power zero zero = refl
digit_power zero (suc j) = rw (eqb-suc-zero j) (digit_suc 1 j ∙ digit_none j)
digit_power (suc k) zero = rw (eqb-zero-suc k) (omega (arith, pow-suc 2 k))
digit_power (suc k) (suc j) =
    let h : 2 ^ suc k / 2 ≡ 2 ^ k = omega (arith, pow-suc 2 k) in
    rw (eqb-suc-suc j k) (digit_suc _ j ∙ ap (λ x. digit x j) h ∙ digit_power k j)

without_suc : (s k : ℕ) → without s (suc k) ≡ s - digit (s / 2) k * 2 ^ k * 2
without_suc s k = ap₂ (λ d p. s - d * p) (digit_suc s k) (pow-suc 2 k) ∙ ap (λ x. s - x) (sym (mul_assoc _ _ _))

digit-without : (s k j : ℕ) → digit (without s k) j ≡ cond (eqb j k) 0 (digit s j)
digit-without s zero zero = omega arith
digit-without s zero (suc j) =
    let h : without s 0 / 2 ≡ s / 2 = omega arith in
    rw (eqb-suc-zero j) (digit_suc _ j ∙ ap (λ x. digit x j) h ∙ sym (digit_suc s j))
digit-without s (suc k) zero = rw (eqb-zero-suc k) (omega (arith, without_suc s k, digit_le (s / 2) k))
digit-without s (suc k) (suc j) =
    let h : without s (suc k) / 2 ≡ without (s / 2) k = omega (arith, without_suc s k, digit_le (s / 2) k) in
    rw (eqb-suc-suc j k) (digit_suc _ j ∙ ap (λ x. digit x j) h ∙ digit-without (s / 2) k j ∙ ap (cond (eqb j k) 0) (sym (digit_suc s j)))

-- a word and the number before it have all its digits but the first in common
pub and_pred : (w s : ℕ) → (s ≡ 0 → ⊥) → s < 2 ^ w → bit_and s (s - 1) ≡ without s (count_trailing_zeros w s)
unfolding count_trailing_zeros
and_pred zero s f h = absurd (f (omega arith))
and_pred (suc w) s f h = go (s % 2) refl (and_pred w (s / 2))
  where
    t : ℕ
    t = count_trailing_zeros w (s / 2)

    go : (d : ℕ) → s % 2 ≡ d → ((s / 2 ≡ 0 → ⊥) → s / 2 < 2 ^ w → bit_and (s / 2) (s / 2 - 1) ≡ without (s / 2) t)
        → bit_and s (s - 1) ≡ without s (under d t)
    go zero e r =
        let half : (s - 1) / 2 ≡ s / 2 - 1 = omega arith in
        let rest = r (λ z. f (omega arith)) (omega (arith, pow-suc 2 w)) in
        let none : min (s % 2) ((s - 1) % 2) ≡ 0 = omega arith in
        rw (and_step, half, rest, none, without_suc) (omega (arith, digit_le (s / 2) t))
    go (suc d) e r =
        let half : (s - 1) / 2 ≡ s / 2 = omega arith in
        rw (and_step, half, and_self) (omega arith)

-- ---- who is in a set

pub has_none : (k : ℕ) → has 0 k ≡ false
has_none k = ap (λ d. eqb d 1) (digit_none k)

pub has_or : (s u j : ℕ) → has (bit_or s u) j ≡ (has s j || has u j)
has_or s u j = ap (λ d. eqb d 1) (ap (λ x. x % 2) (or_shr s u j) ∙ or_mod (s / 2 ^ j) (u / 2 ^ j) 1)
    ∙ go (digit s j) (digit u j) (mod-lt (s / 2 ^ j) (omega arith)) (mod-lt (u / 2 ^ j) (omega arith))
  where
    go : (d e : ℕ) → d < 2 → e < 2 → eqb (bit_or d e) 1 ≡ (eqb d 1 || eqb e 1)
    go zero zero h l = refl
    go zero (suc zero) h l = refl
    go (suc zero) zero h l = refl
    go (suc zero) (suc zero) h l = refl
    go zero (suc (suc e)) h l = absurd (omega arith)
    go (suc zero) (suc (suc e)) h l = absurd (omega arith)
    go (suc (suc d)) e h l = absurd (omega arith)

has_power : (k j : ℕ) → has (2 ^ k) j ≡ eqb j k
has_power k j = ap (λ d. eqb d 1) (digit_power k j) ∙ go (eqb j k)
  where
    go : (b : Bool) → eqb (cond b 1 0) 1 ≡ b
    go true = refl
    go false = refl

pub has-with : (s k j : ℕ) → has (with s k) j ≡ (has s j || eqb j k)
has-with s k j = has_or s (2 ^ k) j ∙ ap (λ b. has s j || b) (has_power k j)

pub has-without : (s k j : ℕ) → has (without s k) j ≡ (not (eqb j k) && has s j)
has-without s k j = ap (λ d. eqb d 1) (digit-without s k j) ∙ go (eqb j k)
  where
    go : (b : Bool) → eqb (cond b 0 (digit s j)) 1 ≡ (not b && has s j)
    go true = refl
    go false = refl

-- s % 2 ^ n is what s has below n
pub has_below : (s n j : ℕ) → j < n → has (s % 2 ^ n) j ≡ has s j
has_below s n j h = ap (λ d. eqb d 1) (digit_below s n j h)

pub below_has : (s n j : ℕ) → has (s % 2 ^ n) j ≡ true → (j < n) × (has s j ≡ true)
below_has s n j e = go (dec_lt j n)
  where
    go : Dec (j < n) → (j < n) × (has s j ≡ true)
    go (yes h) = (h, sym (has_below s n j h) ∙ e)
    go (no h) =
        absurd (true≢false (sym e ∙ ap (λ d. eqb d 1) (digit_past (s % 2 ^ n) n j (mod-lt s (pow_pos n)) (omega arith))))

module _ (p : ℕ → Bool) where
  pub gathered-has : (n j : ℕ) → has (gathered p n) j ≡ true → (j < n) × (p j ≡ true)
  gathered-has n j = kept _ 0 Known n next (λ e. absurd (true≢false (sym e ∙ has_none j)))
    where
      Known : ℕ → ℕ → Type 0
      Known k s = has s j ≡ true → (j < k) × (p j ≡ true)

      next : (k s : ℕ) → k < n → Known k s → Known (suc k) (cond (p k) (with s k) s)
      next k s l before = arms (Known (suc k)) (p k) _ _ (λ q e. ⊎_elim old (new q) (either (has s j) (eqb j k) (sym (has-with s k j) ∙ e))) (λ q. old)
        where
          old : has s j ≡ true → (j < suc k) × (p j ≡ true)
          old e = let (a, b) = before e in (omega arith, b)

          new : p k ≡ true → eqb j k ≡ true → (j < suc k) × (p j ≡ true)
          new q e = let y : j ≡ k = eqb-true j k e in (omega arith, rw y q)

  pub has-gathered : (n j : ℕ) → j < n → has (gathered p n) j ≡ p j
  has-gathered n j h = same _ _ (λ e. (gathered-has n j e).1) (λ q. kept _ 0 (λ k s. j < k → has s j ≡ true) n (next q) (λ l. absurd (omega arith)) h)
    where
      next : p j ≡ true → (k s : ℕ) → k < n → (j < k → has s j ≡ true) → j < suc k → has (cond (p k) (with s k) s) j ≡ true
      next q k s l before m = go (ℕ_discrete j k)
        where
          go : Dec (j ≡ k) → has (cond (p k) (with s k) s) j ≡ true
          go (yes e) = rw (← e, q, has-with, eq-eqb j j refl) (or-true (has s j))
          go (no e) = let b = before (omega arith) in arms (λ s. has s j ≡ true) (p k) _ _ (λ _. rw (has-with, b)) (λ _. b)

-- ---- the pairs of a table

-- a row that is set, or the row as it was
pub set_row : (rows : List ℕ) (w v i : ℕ) → (get_or (set rows w v) i 0 ≡ get_or rows i 0) ⊎ ((i ≡ w) × (get_or (set rows w v) i 0 ≡ v))
set_row rows w v i = go (ℕ_discrete i w) (dec_lt w (length rows))
  where
    go : Dec (i ≡ w) → Dec (w < length rows) → (get_or (set rows w v) i 0 ≡ get_or rows i 0) ⊎ ((i ≡ w) × (get_or (set rows w v) i 0 ≡ v))
    go (no e) d = inl (get_or-set_other rows w i v 0 e)
    go (yes e) (yes h) = inr (e, rw e (get_or-set_same rows w v 0 h))
    go (yes e) (no h) = inl (ap (λ l. get_or l i 0) (set_out rows w v (omega arith)))

pub row_emptied : (rows : List ℕ) (w : ℕ) → get_or (set rows w 0) w 0 ≡ 0
row_emptied rows w = go (dec_lt w (length rows))
  where
    go : Dec (w < length rows) → get_or (set rows w 0) w 0 ≡ 0
    go (yes h) = get_or-set_same rows w 0 0 h
    go (no h) = get_or-eq_default (set rows w 0) 0 (rw length-set (omega arith))

-- a pair stands in a row
pub asks-row : (rows : List ℕ) (i t : ℕ) → asks rows i t ≡ true → i < length rows
asks-row rows i t e = go (dec_lt i (length rows))
  where
    go : Dec (i < length rows) → i < length rows
    go (yes h) = h
    go (no h) =
        let none : get_or rows i 0 ≡ 0 = get_or-eq_default rows 0 (omega arith) in
        absurd (true≢false (sym e ∙ ap (λ s. has s t) none ∙ has_none t))

pub asks-empty : (m i t : ℕ) → asks (replicate m 0) i t ≡ false
asks-empty m i t = ap (λ s. has s t) (no_bits m i) ∙ has_none t

module _ (m : ℕ) (f : ℕ → ℕ) where
  pub tabled-asks : (n i t : ℕ) → asks (tabled m f n) i t ≡ true → (i < n) × (has (f i) t ≡ true)
  tabled-asks n i t = kept _ (replicate m 0) Known n next (λ e. absurd (true≢false (sym e ∙ asks-empty m i t)))
    where
      Known : ℕ → List ℕ → Type 0
      Known k rows = asks rows i t ≡ true → (i < k) × (has (f i) t ≡ true)

      next : (k : ℕ) (rows : List ℕ) → k < n → Known k rows → Known (suc k) (set rows k (f k))
      next k rows z before e = ⊎_elim
          (λ q. let (x, y) = before (ap (λ s. has s t) (sym q) ∙ e) in (omega arith, y))
          (λ q. (omega arith, ap (λ s. has s t) (ap f q.0 ∙ sym q.1) ∙ e))
          (set_row rows k (f k) i)
