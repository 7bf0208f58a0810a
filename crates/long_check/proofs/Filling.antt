-- A table grows by doubling: the upper half is the lower, with what the zeros make of the half's length laid over it.
use mathlib.Core.Path.{◌≡◌, refl, sym, ap, ap₂, ◌∙◌}
use mathlib.Core.List.{List, [], ◌∷◌}
use Prim.Native.Nat.{ℕ, suc, ◌+◌, ◌*◌, ◌-◌, ◌%◌, ◌^◌, ◌≤◌, ◌<◌}
use native.Mathlib.Decide.{dec_lt}
use native.Mathlib.Nat.{add-zero, pow-suc, one-mul, mod-eq_of_lt, mul-le-mul_right, le_of_suc-le-suc, pow-le-pow_right}
use native.Mathlib.Numerals.{add-one}
use native.Mathlib.Omega.{arith}
use lib.Bits.{bit_xor, xor_comm, xor_shifted}
use lib.Dec.{lit<}
use lib.Pow.{pow-lt}
use lib.ListN.{length, get_or}
use Rattle.laws.specs.Steps.{steps}
use Rattle.laws.proofs.Steps.{upto}
use Rattle.words.specs.Check.{crc_bit}
use Rattle.long_check.specs.Zeros.{passed, zeros, Table, Tables, Doubled, Filled}
use Rattle.long_check.proofs.Linear.{Word, passed_xor, passed_zero, passed_double}

module _ (from n : ℕ) where
  -- the byte 0
  pub first_entry : (t : List ℕ) → get_or t from 0 ≡ 0 → Table from n 1 t
  first_entry t e i h =
      let only : i ≡ 0 = omega arith in
      rw only (ap (λ (k : ℕ). get_or t k 0) (add-zero from) ∙ e ∙ sym (passed_zero n))

  pub twice : (b x : ℕ) (s t : List ℕ) → b < 8 → Table from n (2 ^ b) s → x ≡ passed n (2 ^ b) → Doubled from (2 ^ b) (2 ^ b) x s t → Table from n (2 ^ suc b) t
  twice b x s t h table e (long, below, above) i l = go (dec_lt i (2 ^ b))
    where
      go : Dec (i < 2 ^ b) → get_or t (from + i) 0 ≡ passed n i
      go (yes q) = below (from + i) (omega arith) ∙ table i q
      go (no q) =
          let j = i - 2 ^ b in
          let up : i ≡ 2 ^ b + j = omega arith in
          let less : j < 2 ^ b = omega (arith, pow-suc 2 b) in
          let power : Word (2 ^ b) = pow-lt {j = 16} (omega arith) in
          let over : bit_xor (2 ^ b) j ≡ i = rw (one-mul (2 ^ b)) at (xor_shifted 1 b j less) ∙ sym up in
          ap (λ (k : ℕ). get_or t k 0) (omega arith) ∙ above j less ∙ ap₂ bit_xor (table j less) e ∙ xor_comm (passed n j) (passed n (2 ^ b))
          ∙ sym (passed_xor n (2 ^ b) j power (omega arith)) ∙ ap (passed n) over

-- after b doublings, y being what the zeros make of the byte that is next
abbrev pub Grown : ℕ → ℕ → ℕ → List ℕ → List ℕ → ℕ → Type 0
Grown from x b s t y =
    (length t ≡ length s) × ((i : ℕ) → i < from → get_or t i 0 ≡ get_or s i 0) × ((n : ℕ) → x ≡ passed n 1 → Table from n (2 ^ b) t × (y ≡ passed n (2 ^ b)))

module _ (from x : ℕ) (s : List ℕ) where
  pub begun : get_or s from 0 ≡ 0 → Grown from x 0 s s x
  begun none = (refl, (λ i h. refl), (λ n e. (first_entry from n s none, e)))

  pub grown : (b y : ℕ) (t u : List ℕ) {z : ℕ} → b < 8 → Grown from x b s t y → Doubled from (2 ^ b) (2 ^ b) y t u → z ≡ crc_bit y → Grown from x (b + 1) s u z
  grown b y t u h (long, below, table) doubled e =
      let small : 2 ^ b < 2 ^ 8 = pow-lt {j = 8} h in
      rw (add-one b) (
        doubled.0 ∙ long,
        (λ i l. doubled.1 i (omega arith) ∙ below i l),
        (λ n start.
            let (entries, next) = table n start in
            (twice from n b y t u h entries next doubled, e ∙ ap crc_bit next ∙ sym (passed_double n (2 ^ b) (omega arith)) ∙ ap (passed n) (sym (pow-suc 2 b)))),
      )

-- the code's powers of two
pub shifted : (b : ℕ) → b < 8 → 1 * 2 ^ b % 2 ^ 64 ≡ 2 ^ b
shifted b h = rw (one-mul (2 ^ b)) (mod-eq_of_lt (pow-lt {j = 64} (omega arith)))

pub room : (from b : ℕ) (s t : List ℕ) → b < 8 → from + 256 ≤ length s → length t ≡ length s → from + (2 ^ b + 2 ^ b) ≤ length t
room from b s t h l e = omega (arith, pow-le-pow_right {n = 2} (lit< tt) {i = b} {j = 7} (le_of_suc-le-suc h))

-- each start is what its zeros make of the byte 1
pub start : (k : ℕ) → k < 10 → get_or (0x1021 ∷ 0x3331 ∷ 0x3730 ∷ 0x76B4 ∷ 0xAA51 ∷ 0x45A0 ∷ 0xB861 ∷ 0x47D3 ∷ 0xAEFC ∷ 0xA824 ∷ []) k 0 ≡ passed (zeros k) 1
unfolding passed steps crc_bit
start = upto right 9 (upto right 8 (upto right 7 (upto right 6 (upto right 5 (upto right 4 (upto right 3 (upto right 2 (upto right 1 (upto right 0 none refl) refl) refl) refl) refl) refl) refl) refl) refl) refl
  where
    right : ℕ → Type 0
    right k = get_or (0x1021 ∷ 0x3331 ∷ 0x3730 ∷ 0x76B4 ∷ 0xAA51 ∷ 0x45A0 ∷ 0xB861 ∷ 0x47D3 ∷ 0xAEFC ∷ 0xA824 ∷ []) k 0 ≡ passed (zeros k) 1

    none : (k : ℕ) → k < 0 → right k
    none k h = absurd (omega arith)

-- a table more
pub next-room : (k : ℕ) (t : List ℕ) → length t ≡ 2560 → k < 10 → k * 256 + 256 ≤ length t
next-room k t e h = omega arith

pub one_table : (k x : ℕ) (s t : List ℕ) → Tables k s → Filled (k * 256) x s t → x ≡ passed (zeros k) 1 → Tables (k + 1) t
one_table k x s t tables (long, below, table) start =
    rw (add-one k)
    (upto (λ j. Table (j * 256) (zeros j) 256 t) k (λ j h i l. below (j * 256 + i) (omega (arith, mul-le-mul_right 256 h)) ∙ tables j h i l) (table (zeros k) start))
