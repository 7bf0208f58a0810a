-- Numbers as bytes, the high byte first, and rows of such numbers, over any width.
use Rattle.std.specs.Prelude.{ℕ, zero, suc, ◌+◌, ◌*◌, ◌/◌, ◌%◌, ◌<◌, List, [], ◌∷◌, ◌++◌, length, get_or}
use Rattle.laws.specs.Parts.{part, parts}

-- every element is a byte
abbrev pub Bytes : List ℕ → Type 0
Bytes s = (k : ℕ) → get_or s k 0 < 256

-- the w low bytes of x
unfoldable pub big_endian : ℕ → ℕ → List ℕ
big_endian zero x = []
big_endian (suc w) x = big_endian w (x / 256) ++ (x % 256 ∷ [])

-- the number that the bytes s are, after the bytes of x
unfoldable pub number_from : ℕ → List ℕ → ℕ
number_from x [] = x
number_from x (b ∷ s) = number_from (x * 256 + b) s

abbrev pub number : List ℕ → ℕ
number = number_from 0

-- the number that w bytes are from place `at` on
abbrev pub number_at : ℕ → ℕ → List ℕ → ℕ
number_at w at s = number (part at w s)

-- numbers of w bytes each, one after the other; and number i of such a row
abbrev pub row : ℕ → List ℕ → List ℕ
row w xs = parts (λ i. big_endian w (get_or xs i 0)) (length xs)

abbrev pub field : ℕ → List ℕ → ℕ → ℕ
field w s i = number_at w (i * w) s
