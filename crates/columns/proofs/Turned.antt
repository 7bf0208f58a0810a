-- The words of a table's columns have what its rows have: where each digit comes from is computed.
use mathlib.Core.Path.{◌≡◌, refl, sym, ap, ap₂, ◌∙◌}
use mathlib.Core.Bool.{Bool, true, false, not, ◌&&◌, ◌||◌, cond, true≢false}
use mathlib.Core.List.{List}
use Prim.Native.Nat.{ℕ, zero, suc, ◌+◌, ◌-◌, ◌*◌, ◌/◌, ◌%◌, ◌^◌, ◌≤◌, ◌<◌}
use native.Mathlib.Nat.{mod-lt, mod-eq_of_lt, add-zero}
use native.Mathlib.Decide.{dec_lt}
use native.Mathlib.Omega.{arith}
use lib.Bits.{bit_and}
use lib.Dec.{eqb, leb}
use lib.ListN.{get_or}
use lib.Pow.{pow_pos}
use borrow.Author.Tests.{eqb-true, leb-true, le-leb, lt-leb}
use Rattle.laws.specs.Sets.{digit, has, asks}
use Rattle.laws.proofs.Words.{has_and, digit_shift, digit_low, digit-high}
use Rattle.laws.proofs.Members.{has_none, has_below}
use Rattle.laws.proofs.Steps.{upto}
use Rattle.laws.proofs.Tests.{both}
use Rattle.laws.proofs.Rows.{row-tabled}
use Rattle.columns.specs.Transpose.{up, down, four, by_one, by_two, quarter, upper4, lower4, upper8, lower8, across, transposed, part, columns, column}
use Rattle.columns.proofs.Digits.{has_or}

-- ---- a test of all numbers below n

unfoldable all : ℕ → (ℕ → Bool) → Bool
all zero p = true
all (suc n) p = p n && all n p

all_below : (n : ℕ) (p : ℕ → Bool) → all n p ≡ true → (k : ℕ) → k < n → p k ≡ true
unfolding all
all_below zero p e k h = absurd (omega arith)
all_below (suc n) p e k h = let (now, before) = both (p n) (all n p) e in upto (λ k. p k ≡ true) n (all_below n p before) now k h

-- ---- one step

-- of two digits one is let through: u if c, and otherwise v
merged : (c m u v : Bool) → cond c (not m) m ≡ true → ((u && c) || (v && m)) ≡ cond c u v
merged true true u v e = absurd (true≢false (sym e))
merged true false true true e = refl
merged true false true false e = refl
merged true false false true e = refl
merged true false false false e = refl
merged false true true true e = refl
merged false true true false e = refl
merged false true false true e = refl
merged false true false false e = refl
merged false false u v e = absurd (true≢false (sym e))

-- z moved s places up
moved_up : (z s k : ℕ) → has (z * 2 ^ s) k ≡ (has z (k - s) && leb s k)
moved_up z s k = go (dec_lt k s)
  where
    none : (b : Bool) → false ≡ (b && false)
    none true = refl
    none false = refl

    whole : (b : Bool) → b ≡ (b && true)
    whole true = refl
    whole false = refl

    go : Dec (k < s) → has (z * 2 ^ s) k ≡ (has z (k - s) && leb s k)
    go (yes l) = ap (λ d. eqb d 1) (ap (λ x. digit x k) (sym (add-zero (z * 2 ^ s))) ∙ digit_low z s 0 (pow_pos s) k l) ∙ has_none k ∙ rw (lt-leb s k l) (none (has z (k - s)))
    go (no l) =
        let e : k ≡ s + (k - s) = omega arith in
        let h : s ≤ k = omega arith in
        ap (λ d. eqb d 1) (ap₂ (λ x y. digit x y) (sym (add-zero (z * 2 ^ s))) e ∙ digit-high z s 0 (pow_pos s) (k - s)) ∙ rw (le-leb s k h) (whole (has z (k - s)))

-- the digits of y that are moved stand just where x's are not kept
unfoldable up_fits : ℕ → ℕ → ℕ → ℕ → Bool
up_fits kept moved s k = let here = has moved (k - s) && leb s k in cond (has kept k) (not here) here

unfoldable down_fits : ℕ → ℕ → ℕ → ℕ → Bool
down_fits kept moved s k = cond (has kept k) (not (has moved k)) (has moved k) && (has kept k || leb (s + k) 63)

and_assoc : (a b c : Bool) → ((a && b) && c) ≡ (a && (b && c))
and_assoc true b c = refl
and_assoc false b c = refl

has-up : (kept moved s x y k : ℕ) → k < 64 → up_fits kept moved s k ≡ true → has (up kept moved s x y) k ≡ cond (has kept k) (has x k) (has y (k - s))
unfolding up up_fits
has-up kept moved s x y k h fits =
    has_or (bit_and x kept) _ k
    ∙ ap₂ (λ a b. a || b) (has_and x kept k) (has_below (bit_and y moved * 2 ^ s) 64 k h ∙ moved_up (bit_and y moved) s k ∙ ap (λ b. b && leb s k) (has_and y moved (k - s)) ∙ and_assoc (has y (k - s)) (has moved (k - s)) (leb s k))
    ∙ merged (has kept k) (has moved (k - s) && leb s k) (has x k) (has y (k - s)) fits

has-down : (kept moved s x y k : ℕ) → down_fits kept moved s k ≡ true → has (down kept moved s x y) k ≡ cond (has kept k) (has x k) (has y (s + k))
unfolding down down_fits
has-down kept moved s x y k fits =
    has_or (bit_and x kept) _ k
    ∙ ap₂ (λ a b. a || b) (has_and x kept k) (has_and (y / 2 ^ s) moved k ∙ ap (λ b. b && has moved k) (ap (λ d. eqb d 1) (digit_shift y s k)))
    ∙ merged (has kept k) (has moved k) (has x k) (has y (s + k)) (both (cond (has kept k) (not (has moved k)) (has moved k)) _ fits).0

-- ---- where the digits come from

module _ (source : ℕ → Bool) where
  -- digit k of w is the source's at f k
  record Shows (f : ℕ → ℕ) (w : ℕ) : Type 0 where
    digits : (k : ℕ) → k < 64 → has w k ≡ source (f k)

  either_way : (c : Bool) (i j : ℕ) {u v : Bool} → u ≡ source i → (c ≡ false → v ≡ source j) → cond c u v ≡ source (cond c i j)
  either_way true i j p q = p
  either_way false i j p q = q refl

  module _ (kept moved s : ℕ) {f g : ℕ → ℕ} {x y : ℕ} (p : Shows f x) (q : Shows g y) where
    shows_up : all 64 (up_fits kept moved s) ≡ true → Shows (λ k. cond (has kept k) (f k) (g (k - s))) (up kept moved s x y)
    shows_up fits = record {
      digits = λ k h.
          has-up kept moved s x y k h (all_below 64 (up_fits kept moved s) fits k h) ∙ either_way (has kept k) (f k) (g (k - s)) (p.digits k h) (λ _. q.digits (k - s) (omega arith));
    }

    shows_down : all 64 (down_fits kept moved s) ≡ true → Shows (λ k. cond (has kept k) (f k) (g (s + k))) (down kept moved s x y)
    unfolding down_fits
    shows_down fits = record {
      digits = λ k h.
          let ok = all_below 64 (down_fits kept moved s) fits k h in
          has-down kept moved s x y k ok
          ∙ either_way (has kept k) (f k) (g (s + k)) (p.digits k h)
          (λ e. q.digits (s + k) (omega (arith, leb-true (s + k) 63 (rw e at (both (cond (has kept k) (not (has moved k)) (has moved k)) (has kept k || leb (s + k) 63) ok).1))));
    }

abbrev from_one : (ℕ → ℕ) → ℕ → ℕ
from_one f k = cond (has 0xAAAAFFFFAAAAFFFF k) (cond (has 0xFFFF5555FFFF5555 k) (f k) (f (15 + k))) (f (k - 15))

abbrev from_two : (ℕ → ℕ) → ℕ → ℕ
from_two f k = cond (has 0xCCCCCCCCFFFFFFFF k) (cond (has 0xFFFFFFFF33333333 k) (f k) (f (30 + k))) (f (k - 30))

abbrev from-upper4 : (ℕ → ℕ) → (ℕ → ℕ) → ℕ → ℕ
from-upper4 f g k = cond (has 0x0F0F0F0F0F0F0F0F k) (f k) (g (k - 4))

abbrev from-lower4 : (ℕ → ℕ) → (ℕ → ℕ) → ℕ → ℕ
from-lower4 f g k = cond (has 0xF0F0F0F0F0F0F0F0 k) (f k) (g (4 + k))

abbrev from-upper8 : (ℕ → ℕ) → (ℕ → ℕ) → ℕ → ℕ
from-upper8 f g k = cond (has 0x00FF00FF00FF00FF k) (f k) (g (k - 8))

abbrev from-lower8 : (ℕ → ℕ) → (ℕ → ℕ) → ℕ → ℕ
from-lower8 f g k = cond (has 0xFF00FF00FF00FF00 k) (f k) (g (8 + k))

-- the digits of rows 4 q and up, after the squares are turned over
abbrev from-near : ℕ → ℕ → ℕ
from-near q = from_two (from_one (λ k. 64 * q + k))

-- word j's digit k comes from here
from : ℕ → ℕ → ℕ
from zero = from-upper8 (from-upper4 (from-near 0) (from-near 1)) (from-upper4 (from-near 2) (from-near 3))
from (suc zero) = from-upper8 (from-lower4 (from-near 1) (from-near 0)) (from-lower4 (from-near 3) (from-near 2))
from (suc (suc zero)) = from-lower8 (from-upper4 (from-near 2) (from-near 3)) (from-upper4 (from-near 0) (from-near 1))
from (suc (suc (suc j))) = from-lower8 (from-lower4 (from-near 3) (from-near 2)) (from-lower4 (from-near 1) (from-near 0))

-- row i's digit t goes to word t / 4, digit t % 4 * 16 + i
turns_over : all 4 (λ j. all 64 (λ k. eqb (from j k) (16 * (k % 16) + (4 * j + k / 16)))) ≡ true
unfolding all from
turns_over = refl

module _ {source : ℕ → Bool} where
  shows_one : {f : ℕ → ℕ} {w : ℕ} → Shows source f w → Shows source (from_one f) (by_one w)
  unfolding by_one all up_fits down_fits
  shows_one p = shows_up source 0xAAAAFFFFAAAAFFFF 0x0000AAAA0000AAAA 15 (shows_down source 0xFFFF5555FFFF5555 0x0000AAAA0000AAAA 15 p p refl) p refl

  shows_two : {f : ℕ → ℕ} {w : ℕ} → Shows source f w → Shows source (from_two f) (by_two w)
  unfolding by_two all up_fits down_fits
  shows_two p = shows_up source 0xCCCCCCCCFFFFFFFF 0x00000000CCCCCCCC 30 (shows_down source 0xFFFFFFFF33333333 0x00000000CCCCCCCC 30 p p refl) p refl

  module _ {f g : ℕ → ℕ} {x y : ℕ} (p : Shows source f x) (q : Shows source g y) where
    shows_upper4 : Shows source (from-upper4 f g) (upper4 x y)
    unfolding upper4 all up_fits
    shows_upper4 = shows_up source 0x0F0F0F0F0F0F0F0F 0x0F0F0F0F0F0F0F0F 4 p q refl

    shows_lower4 : Shows source (from-lower4 f g) (lower4 x y)
    unfolding lower4 all down_fits
    shows_lower4 = shows_down source 0xF0F0F0F0F0F0F0F0 0x0F0F0F0F0F0F0F0F 4 p q refl

    shows_upper8 : Shows source (from-upper8 f g) (upper8 x y)
    unfolding upper8 all up_fits
    shows_upper8 = shows_up source 0x00FF00FF00FF00FF 0x00FF00FF00FF00FF 8 p q refl

    shows_lower8 : Shows source (from-lower8 f g) (lower8 x y)
    unfolding lower8 all down_fits
    shows_lower8 = shows_down source 0xFF00FF00FF00FF00 0x00FF00FF00FF00FF 8 p q refl

part_lt : (ws : List ℕ) (t : ℕ) → part ws t < 2 ^ 16
unfolding part
part_lt ws t = mod-lt (get_or ws (t / 4) 0 / 2 ^ (t % 4 * 16)) (pow_pos 16)

-- ---- the words of a table

module _ (rows : List ℕ) (small : (i : ℕ) → get_or rows i 0 < 2 ^ 16) where
  -- digit t of row i
  abbrev cell : ℕ → Bool
  cell g = asks rows (g / 16) (g % 16)

  spot : (i t g : ℕ) → t < 16 → 16 * i + t ≡ g → has (get_or rows i 0) t ≡ cell g
  spot i t g h e =
      let row : i ≡ g / 16 = omega arith in
      let place : t ≡ g % 16 = omega arith in
      ap₂ (λ i t. asks rows i t) row place

  shows_four : (q : ℕ) → Shows cell (λ k. 64 * q + k) (four (get_or rows (4 * q) 0) (get_or rows (4 * q + 1) 0) (get_or rows (4 * q + 2) 0) (get_or rows (4 * q + 3) 0))
  unfolding four
  shows_four q = record { digits = λ k h. go k h (dec_lt k 16) (dec_lt k 32) (dec_lt k 48) }
    where
      low : (hi i k : ℕ) → k < 16 → has (hi * 2 ^ 16 + get_or rows i 0) k ≡ has (get_or rows i 0) k
      low hi i k l = ap (λ d. eqb d 1) (digit_low hi 16 (get_or rows i 0) (small i) k l)

      high : (hi i k : ℕ) → 16 ≤ k → has (hi * 2 ^ 16 + get_or rows i 0) k ≡ has hi (k - 16)
      high hi i k l = let e : k ≡ 16 + (k - 16) = omega arith in ap (λ d. eqb d 1) (ap (digit (hi * 2 ^ 16 + get_or rows i 0)) e ∙ digit-high hi 16 (get_or rows i 0) (small i) (k - 16))

      top : ℕ
      top = get_or rows (4 * q + 3) 0

      upper : ℕ
      upper = top * 2 ^ 16 + get_or rows (4 * q + 2) 0

      most : ℕ
      most = upper * 2 ^ 16 + get_or rows (4 * q + 1) 0

      go : (k : ℕ) → k < 64 → Dec (k < 16) → Dec (k < 32) → Dec (k < 48) → has (most * 2 ^ 16 + get_or rows (4 * q) 0) k ≡ cell (64 * q + k)
      go k h (yes a) b c = low most (4 * q) k a ∙ spot (4 * q) k (64 * q + k) a (omega arith)
      go k h (no a) (yes b) c = high most (4 * q) k (omega arith) ∙ low upper (4 * q + 1) (k - 16) (omega arith) ∙ spot (4 * q + 1) (k - 16) (64 * q + k) (omega arith) (omega arith)
      go k h (no a) (no b) (yes c) =
          high most (4 * q) k (omega arith) ∙ high upper (4 * q + 1) (k - 16) (omega arith) ∙ low top (4 * q + 2) (k - 16 - 16) (omega arith)
          ∙ spot (4 * q + 2) (k - 16 - 16) (64 * q + k) (omega arith) (omega arith)
      go k h (no a) (no b) (no c) =
          high most (4 * q) k (omega arith) ∙ high upper (4 * q + 1) (k - 16) (omega arith) ∙ high top (4 * q + 2) (k - 16 - 16) (omega arith)
          ∙ spot (4 * q + 3) (k - 16 - 16 - 16) (64 * q + k) (omega arith) (omega arith)

  shows_quarter : (q : ℕ) → Shows cell (from-near q) (quarter rows (4 * q))
  shows_quarter q = shows_two (shows_one (shows_four q))

  shows_word : (j : ℕ) → j < 4 → Shows cell (from j) (get_or (transposed rows) j 0)
  unfolding transposed across from
  shows_word zero h = shows_upper8 (shows_upper4 (shows_quarter 0) (shows_quarter 1)) (shows_upper4 (shows_quarter 2) (shows_quarter 3))
  shows_word (suc zero) h = shows_upper8 (shows_lower4 (shows_quarter 1) (shows_quarter 0)) (shows_lower4 (shows_quarter 3) (shows_quarter 2))
  shows_word (suc (suc zero)) h = shows_lower8 (shows_upper4 (shows_quarter 2) (shows_quarter 3)) (shows_upper4 (shows_quarter 0) (shows_quarter 1))
  shows_word (suc (suc (suc zero))) h = shows_lower8 (shows_lower4 (shows_quarter 3) (shows_quarter 2)) (shows_lower4 (shows_quarter 1) (shows_quarter 0))
  shows_word (suc (suc (suc (suc j)))) h = absurd (omega arith)

  has_part : (i t : ℕ) → i < 16 → t < 16 → has (part (transposed rows) t) i ≡ asks rows i t
  unfolding part
  has_part i t h l =
      let j = t / 4 in
      let k = t % 4 * 16 + i in
      let j< : j < 4 = omega arith in
      let k< : k < 64 = omega arith in
      let goal : 16 * (k % 16) + (4 * j + k / 16) ≡ 16 * i + t = omega arith in
      let came : from j k ≡ 16 * (k % 16) + (4 * j + k / 16) = eqb-true _ _ (all_below 64 _ (all_below 4 _ turns_over j j<) k k<) in
      has_below (get_or (transposed rows) j 0 / 2 ^ (t % 4 * 16)) 16 i h
      ∙ ap (λ d. eqb d 1) (digit_shift (get_or (transposed rows) j 0) (t % 4 * 16) i)
      ∙ (shows_word j j<).digits k k<
      ∙ ap cell (came ∙ goal)
      ∙ sym (spot i t (16 * i + t) l refl)

  -- initiator i is in column t if its row has t
  pub has-column : (i t : ℕ) → i < 16 → t < 16 → has (column (columns rows) t) i ≡ asks rows i t
  unfolding column columns
  has-column i t h l = ap (λ s. has s i) (ap (λ s. s % 2 ^ 16) (row-tabled 16 (part (transposed rows)) 16 t l l) ∙ mod-eq_of_lt (part_lt (transposed rows) t)) ∙ has_part i t h l

pub column_lt : (cs : List ℕ) (t : ℕ) → column cs t < 2 ^ 16
unfolding column
column_lt cs t = mod-lt (get_or cs t 0) (pow_pos 16)
