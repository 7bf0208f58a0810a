-- Tables of counts: which count is that of a pair, and what one more for each pair of a table of sets comes to.
use mathlib.Core.Path.{◌≡◌, refl, sym, ap, ◌∙◌}
use mathlib.Core.Bool.{Bool, true, false, ◌&&◌, cond, and-false}
use mathlib.Core.List.{List}
use Prim.Native.Nat.{ℕ, ◌+◌, ◌-◌, ◌*◌, ◌/◌, ◌%◌, ◌^◌, ◌≤◌, ◌<◌}
use native.Mathlib.Decide.{dec_lt, ℕ_discrete}
use native.Mathlib.Nat.{mul-add-div_right, mul-add-mod_self_right, div-eq_of_lt, mod-eq_of_lt, add-zero, suc-mul, mul-le-mul_right}
use native.Mathlib.Numerals.{add-one}
use native.Mathlib.Omega.{arith}
use lib.Bits.{bit_and}
use lib.Count.{count_trailing_zeros}
use lib.Dec.{eqb, ltb, leb}
use lib.ListN.{length, get_or, set, length-set}
use lib.Seq.{get_or-set_same, get_or-set_other, ext_get_or}
use borrow.Author.Tests.{lt-ltb, le-ltb, le-leb, lt-leb, eq-eqb, ne_eqb}
use Rattle.laws.specs.Sets.{has, asks, without}
use Rattle.laws.proofs.Members.{has-without, and_pred}
use Rattle.laws.proofs.Rows.{row-tabled, length_tabled}
use Rattle.laws.proofs.Words.{digit_past, first_digit, trailing_below}
use Rattle.ledger.specs.Counts.{pairs, pair, raised, most_slots}

-- ---- the count of a pair

module _ (m i t : ℕ) (h : t < m) where
  pub pair_row : pair m i t / m ≡ i
  pair_row = mul-add-div_right (omega arith) i t ∙ ap (λ z. i + z) (div-eq_of_lt h) ∙ add-zero i

  pub pair-column : pair m i t % m ≡ t
  pair-column = mul-add-mod_self_right i m t ∙ mod-eq_of_lt h

  pub pair_range : i < m → pair m i t < pairs m
  pair_range l = omega (arith, mul-le-mul_right m l, suc-mul i m)

pub length_raised : (m : ℕ) (rows counts : List ℕ) → length (raised m rows counts) ≡ pairs m
unfolding raised
length_raised m rows counts = length_tabled (pairs m) _ (pairs m)

-- one more, if the pair is in the table
pub raised-pair : (m : ℕ) (rows counts : List ℕ) (i t : ℕ) → i < m → t < m
    → get_or (raised m rows counts) (pair m i t) 0 ≡ get_or counts (pair m i t) 0 + cond (asks rows i t) 1 0
unfolding raised
raised-pair m rows counts i t l g =
    let below = pair_range m i t g l in
    row-tabled (pairs m) _ (pairs m) (pair m i t) below below ∙ rw (pair_row m i t g, pair-column m i t g)

-- ---- a row, by the bits that are set

-- one more is still to come for each t in left
pub record Raising (from row left : ℕ) (old counts : List ℕ) : Type 0 where
  pub long : length counts ≡ length old
  pub each : (k : ℕ) → get_or counts k 0 + cond (leb from k && has left (k - from)) 1 0 ≡ get_or old k 0 + cond (leb from k && has row (k - from)) 1 0

module _ {from row left : ℕ} {old counts : List ℕ} (so_far : Raising from row left old counts) (w : ℕ) (some : 0 < left) (small : left < 2 ^ w) where
  abbrev t : ℕ
  t = count_trailing_zeros w left

  first : has left t ≡ true
  first = eq-eqb _ 1 (first_digit w left (λ e. omega arith) small).0

  here : (leb from (from + t) && has left (from + t - from)) ≡ true
  here =
      let back : from + t - from ≡ t = omega arith in
      rw (le-leb from (from + t) (omega arith), back) first

  bit_range : from + w ≤ length old → from + count_trailing_zeros w left < length counts
  bit_range h = omega (arith, trailing_below w left some small, so_far.long)

  pub bit_room : ((k : ℕ) → k < w → get_or old (from + k) 0 < most_slots) → get_or counts (from + count_trailing_zeros w left) 0 < most_slots
  bit_room room =
      let now = rw here at (so_far.each (from + t)) in
      let most : cond (leb from (from + t) && has row (from + t - from)) 1 0 ≤ 1 = one (leb from (from + t) && has row (from + t - from)) in
      omega (arith, room t (trailing_below w left some small))
    where
      one : (b : Bool) → cond b 1 0 ≤ 1
      one true = omega arith
      one false = omega arith

  pub next_bit : from + w ≤ length old
      → Raising from row (bit_and left (left - 1)) old (set counts (from + count_trailing_zeros w left) (get_or counts (from + count_trailing_zeros w left) 0 + 1))
  next_bit h = record { long = length-set counts _ _ ∙ so_far.long; each = λ k. go k (ℕ_discrete k (from + t)) }
    where
      cleared : (k : ℕ) → has (bit_and left (left - 1)) k ≡ has (without left t) k
      cleared k = ap (λ s. has s k) (and_pred w left (λ e. omega arith) small)

      go : (k : ℕ) → Dec (k ≡ from + t)
          → get_or (set counts (from + t) (get_or counts (from + t) 0 + 1)) k 0 + cond (leb from k && has (bit_and left (left - 1)) (k - from)) 1 0
          ≡ get_or old k 0 + cond (leb from k && has row (k - from)) 1 0
      go k (yes e) =
          let back : from + t - from ≡ t = omega arith in
          let gone : has (bit_and left (left - 1)) (from + t - from) ≡ false = rw back (cleared t ∙ has-without left t t ∙ rw (eq-eqb t t refl)) in
          let now = rw here at (so_far.each (from + t)) in
          rw (e, get_or-set_same counts (from + t) (get_or counts (from + t) 0 + 1) 0 (bit_range h), gone, and-false)
          (add-zero _ ∙ now)
      go k (no e) = rw (get_or-set_other counts (from + t) k (get_or counts (from + t) 0 + 1) 0 e) (other (dec_lt k from) ∙ so_far.each k)
        where
          other : Dec (k < from) → get_or counts k 0 + cond (leb from k && has (bit_and left (left - 1)) (k - from)) 1 0
              ≡ get_or counts k 0 + cond (leb from k && has left (k - from)) 1 0
          other (yes l) = rw (lt-leb from k l)
          other (no l) = ap (λ b. get_or counts k 0 + cond (leb from k && b) 1 0)
              (cleared (k - from) ∙ has-without left t (k - from) ∙ rw (ne_eqb (k - from) t (λ q. e (omega arith))))

-- ---- the rows of a table

-- the rows below i have been taken
pub record Rows (m i : ℕ) (rows old counts : List ℕ) : Type 0 where
  pub long : length counts ≡ pairs m
  pub each : (k : ℕ) → get_or counts k 0 ≡ get_or old k 0 + cond (ltb k (i * m) && asks rows (k / m) (k % m)) 1 0

module _ {m i : ℕ} {rows old counts : List ℕ} (so_far : Rows m i rows old counts) (below : i < m) where
  pub one_row : {last : List ℕ} → get_or rows i 0 < 2 ^ m → length last ≡ length counts
      → ((k : ℕ) → get_or last k 0 ≡ get_or counts k 0 + cond (leb (i * m) k && has (get_or rows i 0) (k - i * m)) 1 0) → Rows m (i + 1) rows old last
  one_row small long each = record { long = long ∙ so_far.long; each = λ k. each k ∙ rw (add-one i, suc-mul i m) (go k (dec_lt k (i * m)) (dec_lt k (i * m + m))) }
    where
      go : (k : ℕ) → Dec (k < i * m) → Dec (k < i * m + m)
          → get_or counts k 0 + cond (leb (i * m) k && has (get_or rows i 0) (k - i * m)) 1 0 ≡ get_or old k 0 + cond (ltb k (i * m + m) && asks rows (k / m) (k % m)) 1 0
      go k (yes l) d =
          rw (lt-leb (i * m) k l, lt-ltb k (i * m + m) (omega arith)) (add-zero _ ∙ (rw (lt-ltb k (i * m) l) at (so_far.each k)))
      go k (no l) (yes d) =
          let column : k - i * m < m = omega arith in
          let is : k ≡ pair m i (k - i * m) = omega arith in
          let row : k / m ≡ i = ap (λ z. z / m) is ∙ pair_row m i (k - i * m) column in
          let place : k % m ≡ k - i * m = ap (λ z. z % m) is ∙ pair-column m i (k - i * m) column in
          let old-count : get_or counts k 0 ≡ get_or old k 0 = (rw (le-ltb k (i * m) (omega arith)) at (so_far.each k)) ∙ add-zero _ in
          rw (le-leb (i * m) k (omega arith), lt-ltb k (i * m + m) d, row, place, old-count)
      go k (no l) (no d) =
          let gone : has (get_or rows i 0) (k - i * m) ≡ false = ap (λ z. eqb z 1) (digit_past (get_or rows i 0) m (k - i * m) small (omega arith)) in
          rw (gone, and-false, le-ltb k (i * m + m) (omega arith)) (add-zero _ ∙ (rw (le-ltb k (i * m) (omega arith)) at (so_far.each k)))

pub all_taken : {m i : ℕ} {rows old counts : List ℕ} → Rows m i rows old counts → i ≡ m → counts ≡ raised m rows old
unfolding raised
all_taken {m} {i} {rows} {old} {counts} r e = ext_get_or 0 counts _ (r.long ∙ sym (length_tabled (pairs m) _ (pairs m))) (λ k h.
    let below : k < pairs m = omega (arith, r.long) in
    r.each k ∙ rw (e, lt-ltb k (m * m) below) (sym (row-tabled (pairs m) _ (pairs m) k below below)))
