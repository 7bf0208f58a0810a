-- The checks of one slot of 16 ports: of 9 bytes for each configuration frame and of 5 for each grant frame, summed so that none is idle.
use Rattle.std.specs.Prelude.{ℕ, ◌*◌, cond, List, eqb, length, take, drop}
use Rattle.std.specs.Int.Bits.{bit_xor}
use Rattle.laws.specs.Steps.{steps}
use Rattle.words.specs.Check.{crc_of}

abbrev pub checks_of : List ℕ → ℕ
checks_of part = bit_xor (crc_of part) (crc_of (take 5 part))

-- the first k parts of 9 bytes
abbrev pub checks_to : List ℕ → ℕ → ℕ
checks_to s = steps (λ h sum. bit_xor sum (checks_of (take 9 (drop (h * 9) s)))) 0

abbrev pub slot_checks : List ℕ → ℕ
slot_checks s = cond (eqb (length s) 144) (checks_to s 16) 0
