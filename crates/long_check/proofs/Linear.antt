-- Zeros make of two words laid over one another what they make of each, laid over one another.
use mathlib.Core.Path.{◌≡◌, refl, sym, ap, ap₂, ◌∙◌}
use mathlib.Core.Bool.{Bool, true, false, cond}
use Prim.Native.Nat.{ℕ, zero, suc, ◌+◌, ◌*◌, ◌/◌, ◌%◌, ◌^◌, ◌<◌}
use native.Mathlib.Nat.{mod-lt, div-add-mod', pow-suc, zero-add, suc-add, mul-one, mul_assoc}
use native.Mathlib.Numerals.{add-one}
use native.Mathlib.Decide.{dec_lt}
use native.Mathlib.Omega.{arith}
use lib.Bits.{bit_xor, xor_step, xor_zero_r, xor_comm, xor_lt, xor_shr, xor_mod}
use lib.Dec.{eqb, ltb, lit<}
use borrow.Author.Tests.{lt-ltb, le-ltb, eq-eqb, ne_eqb}
use Rattle.laws.specs.Steps.{steps}
use Rattle.words.specs.Check.{crc_bit}
use Rattle.long_check.specs.Zeros.{passed}

-- ---- laying words over one another

bits : (a b c : ℕ) → a < 2 → b < 2 → c < 2 → bit_xor (bit_xor a b) c ≡ bit_xor a (bit_xor b c)
bits zero zero zero p q r = refl
bits zero zero (suc zero) p q r = refl
bits zero (suc zero) zero p q r = refl
bits zero (suc zero) (suc zero) p q r = refl
bits (suc zero) zero zero p q r = refl
bits (suc zero) zero (suc zero) p q r = refl
bits (suc zero) (suc zero) zero p q r = refl
bits (suc zero) (suc zero) (suc zero) p q r = refl
bits (suc (suc a)) b c p q r = absurd (omega arith)
bits zero (suc (suc b)) c p q r = absurd (omega arith)
bits (suc zero) (suc (suc b)) c p q r = absurd (omega arith)
bits zero zero (suc (suc c)) p q r = absurd (omega arith)
bits zero (suc zero) (suc (suc c)) p q r = absurd (omega arith)
bits (suc zero) zero (suc (suc c)) p q r = absurd (omega arith)
bits (suc zero) (suc zero) (suc (suc c)) p q r = absurd (omega arith)

assoc_wide : (w a b c : ℕ) → a < 2 ^ w → b < 2 ^ w → c < 2 ^ w → bit_xor (bit_xor a b) c ≡ bit_xor a (bit_xor b c)
assoc_wide zero a b c p q r =
    let x : a ≡ 0 = omega arith in
    let y : b ≡ 0 = omega arith in
    let z : c ≡ 0 = omega arith in
    rw (x, y, z)
assoc_wide (suc w) a b c p q r =
    let two = pow-suc 2 w in
    let half : bit_xor (bit_xor a b) c / 2 ≡ bit_xor a (bit_xor b c) / 2 =
    xor_shr (bit_xor a b) c 1 ∙ ap (λ (x : ℕ). bit_xor x (c / 2)) (xor_shr a b 1) ∙ assoc_wide w (a / 2) (b / 2) (c / 2) (omega arith) (omega arith) (omega arith)
    ∙ sym (xor_shr a (bit_xor b c) 1 ∙ ap (bit_xor (a / 2)) (xor_shr b c 1)) in
    let odd : bit_xor (bit_xor a b) c % 2 ≡ bit_xor a (bit_xor b c) % 2 =
    xor_mod (bit_xor a b) c 1 ∙ ap (λ (x : ℕ). bit_xor x (c % 2)) (xor_mod a b 1) ∙ bits (a % 2) (b % 2) (c % 2) (omega arith) (omega arith) (omega arith)
    ∙ sym (xor_mod a (bit_xor b c) 1 ∙ ap (bit_xor (a % 2)) (xor_mod b c 1)) in
    sym (div-add-mod' (bit_xor (bit_xor a b) c) 2) ∙ ap₂ (λ (x y : ℕ). x * 2 + y) half odd ∙ div-add-mod' (bit_xor a (bit_xor b c)) 2

-- words
abbrev pub Word : ℕ → Type 0
Word x = x < 2 ^ 16

pub word_xor : (a b : ℕ) → Word a → Word b → Word (bit_xor a b)
word_xor a b p q = xor_lt 16 a b p q

pub assoc : (a b c : ℕ) → Word a → Word b → Word c → bit_xor (bit_xor a b) c ≡ bit_xor a (bit_xor b c)
assoc = assoc_wide 16

shuffle : (a b c d : ℕ) → Word a → Word b → Word c → Word d → bit_xor (bit_xor a b) (bit_xor c d) ≡ bit_xor (bit_xor a c) (bit_xor b d)
shuffle a b c d p q r s =
    assoc a b (bit_xor c d) p q (word_xor c d r s)
    ∙ ap (bit_xor a) (sym (assoc b c d q r s) ∙ ap (λ (x : ℕ). bit_xor x d) (xor_comm b c) ∙ assoc c b d r q s)
    ∙ sym (assoc a c (bit_xor b d) p r (word_xor b d q s))

-- ---- one bit

selected : ℕ → ℕ
selected a = cond (eqb a 0) 0 0x1021

top : (x : ℕ) → ltb x 0x8000 ≡ eqb (x / 2 ^ 15) 0
top x = go (dec_lt x 0x8000)
  where
    go : Dec (x < 0x8000) → ltb x 0x8000 ≡ eqb (x / 2 ^ 15) 0
    go (yes h) = lt-ltb x 0x8000 h ∙ sym (eq-eqb (x / 2 ^ 15) 0 (omega arith))
    go (no h) = le-ltb x 0x8000 (omega arith) ∙ sym (ne_eqb (x / 2 ^ 15) 0 (λ e. omega arith))

bit_is : (x : ℕ) → crc_bit x ≡ bit_xor (x * 2 % 0x10000) (selected (x / 2 ^ 15))
unfolding crc_bit selected
bit_is x = rw (top x) (go (eqb (x / 2 ^ 15) 0))
  where
    go : (b : Bool) → cond b (x * 2 % 0x10000) (bit_xor (x * 2 % 0x10000) 0x1021) ≡ bit_xor (x * 2 % 0x10000) (cond b 0 0x1021)
    go true = sym (xor_zero_r (x * 2 % 0x10000))
    go false = refl

selected_word : (a : ℕ) → Word (selected a)
unfolding selected
selected_word a = go (eqb a 0)
  where
    go : (b : Bool) → Word (cond b 0 0x1021)
    go true = lit< tt
    go false = lit< tt

selected_xor : (a b : ℕ) → a < 2 → b < 2 → selected (bit_xor a b) ≡ bit_xor (selected a) (selected b)
unfolding selected
selected_xor zero zero p q = refl
selected_xor zero (suc zero) p q = refl
selected_xor (suc zero) zero p q = refl
selected_xor (suc zero) (suc zero) p q = refl
selected_xor (suc (suc a)) b p q = absurd (omega arith)
selected_xor zero (suc (suc b)) p q = absurd (omega arith)
selected_xor (suc zero) (suc (suc b)) p q = absurd (omega arith)

doubled : (x y : ℕ) → bit_xor x y * 2 ≡ bit_xor (x * 2) (y * 2)
doubled x y =
    let a : x * 2 / 2 ≡ x = omega arith in
    let b : y * 2 / 2 ≡ y = omega arith in
    let c : x * 2 % 2 ≡ 0 = omega arith in
    let d : y * 2 % 2 ≡ 0 = omega arith in
    sym (xor_step (x * 2) (y * 2) ∙ rw (a, b, c, d) (omega arith))

shifted_word : (x : ℕ) → Word (x * 2 % 0x10000)
shifted_word x = mod-lt (x * 2) (lit< tt)

bit_word : (x : ℕ) → Word (crc_bit x)
bit_word x = rw (bit_is x) (word_xor _ _ (shifted_word x) (selected_word (x / 2 ^ 15)))

bit_linear : (x y : ℕ) → Word x → Word y → crc_bit (bit_xor x y) ≡ bit_xor (crc_bit x) (crc_bit y)
bit_linear x y p q =
    let a = x * 2 % 0x10000 in
    let b = y * 2 % 0x10000 in
    let s = selected (x / 2 ^ 15) in
    let t = selected (y / 2 ^ 15) in
    let shift : bit_xor x y * 2 % 0x10000 ≡ bit_xor a b = ap (λ (z : ℕ). z % 0x10000) (doubled x y) ∙ xor_mod (x * 2) (y * 2) 16 in
    let carry : selected (bit_xor x y / 2 ^ 15) ≡ bit_xor s t = ap selected (xor_shr x y 15) ∙ selected_xor (x / 2 ^ 15) (y / 2 ^ 15) (omega arith) (omega arith) in
    bit_is (bit_xor x y) ∙ ap₂ bit_xor shift carry ∙ shuffle a b s t (shifted_word x) (shifted_word y) (selected_word (x / 2 ^ 15)) (selected_word (y / 2 ^ 15))
    ∙ sym (ap₂ bit_xor (bit_is x) (bit_is y))

-- ---- any number of bits

pub passed-word : (n x : ℕ) → Word x → Word (passed n x)
unfolding passed steps
passed-word zero x h = h
passed-word (suc n) x h = bit_word (passed n x)

pub passed_xor : (n x y : ℕ) → Word x → Word y → passed n (bit_xor x y) ≡ bit_xor (passed n x) (passed n y)
unfolding passed steps
passed_xor zero x y p q = refl
passed_xor (suc n) x y p q = ap crc_bit (passed_xor n x y p q) ∙ bit_linear (passed n x) (passed n y) (passed-word n x p) (passed-word n y q)

pub passed_add : (m n x : ℕ) → passed (m + n) x ≡ passed m (passed n x)
unfolding passed steps
passed_add zero n x = ap (λ (k : ℕ). passed k x) (zero-add n)
passed_add (suc m) n x = ap (λ (k : ℕ). passed k x) (suc-add m n) ∙ ap crc_bit (passed_add m n x)

pub passed_zero : (n : ℕ) → passed n 0 ≡ 0
unfolding passed steps crc_bit
passed_zero zero = refl
passed_zero (suc n) = ap crc_bit (passed_zero n)

-- a bit below the highest goes up
up : (x : ℕ) → x < 0x8000 → crc_bit x ≡ x * 2
unfolding crc_bit
up x h = rw (lt-ltb x 0x8000 h) (omega arith)

pub passed_double : (n x : ℕ) → x < 0x8000 → passed n (x * 2) ≡ crc_bit (passed n x)
unfolding passed steps
passed_double n x h = ap (passed n) (sym (up x h)) ∙ sym (passed_add n 1 x) ∙ ap (λ (k : ℕ). passed k x) (add-one n)

pub lifted : (k x : ℕ) → x * 2 ^ k < 0x10000 → passed k x ≡ x * 2 ^ k
unfolding passed steps
lifted zero x h = sym (mul-one x)
lifted (suc k) x h =
    let e : x * 2 ^ suc k ≡ x * 2 ^ k * 2 = ap (◌*◌ x) (pow-suc 2 k) ∙ sym (mul_assoc x (2 ^ k) 2) in
    ap crc_bit (lifted k x (omega arith)) ∙ up (x * 2 ^ k) (omega arith) ∙ sym e
