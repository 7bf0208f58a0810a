-- The check: CRC-16 with polynomial 0x1021, start 0xFFFF, no reflection and no final change, over a list of bytes.
use Rattle.std.specs.Prelude.{ℕ, ◌-◌, ◌*◌, ◌%◌, Bool, ◌&&◌, cond, List, [], ◌∷◌, ◌++◌, eqb, ltb, leb, length, take, drop}
use Rattle.std.specs.Int.Bits.{bit_xor}
use Rattle.laws.specs.Bytes.{big_endian, number}
use Rattle.laws.specs.Steps.{steps}

-- one bit: shifted, and reduced if a bit went out
unfoldable pub crc_bit : ℕ → ℕ
crc_bit c = cond (ltb c 0x8000) (c * 2 % 0x10000) (bit_xor (c * 2 % 0x10000) 0x1021)

-- one byte: it meets the high byte of c, then its eight bits go out, the highest first
unfoldable pub crc_byte : ℕ → ℕ → ℕ
crc_byte c b = steps (λ k x. crc_bit x) (bit_xor c (b * 256)) 8

unfoldable pub crc_from : ℕ → List ℕ → ℕ
crc_from c [] = c
crc_from c (b ∷ s) = crc_from (crc_byte c b) s

abbrev pub crc_of : List ℕ → ℕ
crc_of = crc_from 0xFFFF

-- bytes, and their check behind them
abbrev pub checked : List ℕ → List ℕ
checked s = s ++ big_endian 2 (crc_of s)

-- all but the last two bytes, and the last two
abbrev pub front : List ℕ → List ℕ
front s = take (length s - 2) s

abbrev pub last_two : List ℕ → List ℕ
last_two s = drop (length s - 2) s

-- the last two bytes made the check of those before them, where there are two
unfoldable pub sealed : List ℕ → List ℕ
sealed s = cond (leb 2 (length s)) (checked (front s)) s

-- there are two, and they are that check
unfoldable pub intact : List ℕ → Bool
intact s = leb 2 (length s) && eqb (number (last_two s)) (crc_of (front s))
