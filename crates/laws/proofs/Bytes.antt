-- What is written as bytes reads back, and what is read is what is written, over any width and any number of fields.
use mathlib.Core.Path.{◌≡◌, refl, ◌∙◌}
use mathlib.Core.List.{List, [], ◌∷◌, ◌++◌}
use Prim.Native.Nat.{ℕ, zero, suc, ◌+◌, ◌*◌, ◌/◌, ◌%◌, ◌^◌, ◌<◌, ◌≤◌}
use native.Mathlib.Nat.{div-add-mod', div-lt_iff_lt-mul, mul-le-mul_left, mul-le-mul_right, one-le-pow, pow-suc, suc-mul, zero-mul}
use native.Mathlib.Omega.{arith}
use lib.ListN.{length, get_or, take, drop, length-append, length-drop}
use lib.Seq.{take-suc, take-add, get_or-drop}
use lib.Dec.{lit<, lit≤}
use Rattle.laws.specs.Steps.{steps}
use Rattle.laws.specs.Parts.{parts}
use Rattle.laws.specs.Bytes.{Bytes, big_endian, number_from, number, row, field}
use Rattle.laws.proofs.Parts.{part_at}

pub length_big : (w x : ℕ) → length (big_endian w x) ≡ w
unfolding big_endian
length_big zero x = refl
length_big (suc w) x = length-append (big_endian w (x / 256)) _ ∙ rw (length_big w (x / 256)) (omega arith)

-- one byte more, at the low end
number_snoc : (x : ℕ) (s : List ℕ) (b : ℕ) → number_from x (s ++ (b ∷ [])) ≡ number_from x s * 256 + b
unfolding number_from
number_snoc x [] b = refl
number_snoc x (a ∷ s) b = number_snoc (x * 256 + a) s b

pub number_big : (w x : ℕ) → x < 256 ^ w → number (big_endian w x) ≡ x
unfolding big_endian number_from
number_big zero x h = omega arith
number_big (suc w) x h =
    let less : x / 256 < 256 ^ w = (div-lt_iff_lt-mul (lit< tt)).1 (rw pow-suc at h) in
    number_snoc 0 (big_endian w (x / 256)) (x % 256) ∙ rw (number_big w (x / 256) less) (div-add-mod' x 256)

-- the number that w bytes make after those of x
pub number_small : (w x : ℕ) (s : List ℕ) → Bytes s → number_from x (take w s) < (x + 1) * 256 ^ w
unfolding number_from
number_small zero x s bytes = omega arith
number_small (suc w) x [] bytes =
    let none : number_from x (take (suc w) []) ≡ x = refl in
    omega (arith, mul-le-mul_left (x + 1) (one-le-pow (suc w) 256 (lit≤ tt)))
number_small (suc w) x (b ∷ s) bytes =
    let byte : x * 256 + b + 1 ≤ (x + 1) * 256 = omega (arith, bytes 0) in
    rw pow-suc (omega (arith, number_small w (x * 256 + b) s (λ k. bytes (suc k)), mul-le-mul_right (256 ^ w) byte))

pub big_number : (s : List ℕ) → Bytes s → (w : ℕ) → w ≤ length s → big_endian w (number (take w s)) ≡ take w s
unfolding big_endian
big_number s bytes zero h = refl
big_number s bytes (suc w) h =
    let b = get_or s w 0 in
    let n = number (take w s) in
    let byte = bytes w in
    let high : (n * 256 + b) / 256 ≡ n = omega arith in
    let low : (n * 256 + b) % 256 ≡ b = omega arith in
    rw (take-suc s w 0 h, number_snoc 0 (take w s) b, high, low, big_number s bytes w (omega arith))

pub bytes_drop : (k : ℕ) (s : List ℕ) → Bytes s → Bytes (drop k s)
bytes_drop k s bytes i = rw (get_or-drop k s i 0) (bytes (k + i))

pub bytes_take : (n : ℕ) (s : List ℕ) → Bytes s → Bytes (take n s)
bytes_take zero s bytes k = lit< tt
bytes_take (suc n) [] bytes k = bytes k
bytes_take (suc n) (b ∷ s) bytes zero = bytes 0
bytes_take (suc n) (b ∷ s) bytes (suc k) = bytes_take n s (λ i. bytes (suc i)) k

-- field i of a row is number i
pub field_row : (w : ℕ) (xs : List ℕ) → ((i : ℕ) → get_or xs i 0 < 256 ^ w) → (i : ℕ) → i < length xs → field w (row w xs) i ≡ get_or xs i 0
field_row w xs small i h =
    rw (part_at (λ k. big_endian w (get_or xs k 0)) w (λ k. length_big w (get_or xs k 0)) (length xs) i h)
    (number_big w (get_or xs i 0) (small i))

-- the row of the first n fields is the bytes that they were read from
pub row_fields : (w : ℕ) (s : List ℕ) → Bytes s → (n : ℕ) → n * w ≤ length s → parts (λ i. big_endian w (field w s i)) n ≡ take (n * w) s
unfolding steps
row_fields w s bytes zero h = rw (zero-mul w)
row_fields w s bytes (suc n) h =
    let t = drop (n * w) s in
    let whole : n * w + w ≤ length s = rw suc-mul at h in
    let room : w ≤ length t = simp length-drop (omega arith) in
    rw (row_fields w s bytes n (omega arith), big_number t (bytes_drop (n * w) s bytes) w room, suc-mul n w, take-add)
