-- What bits of zeros make of a check, and tables of it.
use Rattle.std.specs.Prelude.{ℕ, ◌+◌, ◌*◌, ◌<◌, ◌≡◌, cond, List, ltb, length, get_or}
use Rattle.std.specs.Int.Bits.{bit_xor}
use Rattle.laws.specs.Steps.{steps}
use Rattle.laws.specs.Bytes.{Bytes}
use Rattle.words.specs.Check.{crc_bit, crc_from}

-- the check x after n bits of zeros
unfoldable pub passed : ℕ → ℕ → ℕ
passed n x = steps (λ k y. crc_bit y) x n

-- t holds, from a place on, what n bits of zeros make of each byte below m
abbrev pub Table : ℕ → ℕ → ℕ → List ℕ → Type 0
Table from n m t = (i : ℕ) → i < m → get_or t (from + i) 0 ≡ passed n i

-- the bits of zeros that table k is for: 16 for a byte with none behind it and 8 more for each of up to seven; then those of
-- sixteen bytes for the low byte of a check, and for its high one
abbrev pub zeros : ℕ → ℕ
zeros k = cond (ltb k 8) (8 * k + 16) (8 * k + 64)

-- t holds the first m tables
abbrev pub Tables : ℕ → List ℕ → Type 0
Tables m t = (k : ℕ) → k < m → Table (k * 256) (zeros k) 256 t

-- t is s below place from + n; the m places from there on hold, with x laid over it, what stands n places before
abbrev pub Doubled : ℕ → ℕ → ℕ → ℕ → List ℕ → List ℕ → Type 0
Doubled from n m x s t =
    (length t ≡ length s) × ((i : ℕ) → i < from + n → get_or t i 0 ≡ get_or s i 0) × ((i : ℕ) → i < m → get_or t (from + n + i) 0 ≡ bit_xor (get_or s (from + i) 0) x)

-- t is s below a place, and there holds the table of any zeros that make x of the byte 1
abbrev pub Filled : ℕ → ℕ → List ℕ → List ℕ → Type 0
Filled from x s t =
    (length t ≡ length s) × ((i : ℕ) → i < from → get_or t i 0 ≡ get_or s i 0) × ((n : ℕ) → x ≡ passed n 1 → Table from n 256 t)

-- r is what the bytes s make of the check c
abbrev pub After : ℕ → List ℕ → ℕ → Type 0
After c s r = (r ≡ crc_from c s) × Bytes s
