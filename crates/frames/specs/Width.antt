-- How wide the sets in the frames of a shelf are.
use Rattle.std.specs.Prelude.{ℕ, ◌*◌}

-- the bytes of a set in frames of types 1 and 3
abbrev pub narrow : ℕ
narrow = 2

-- the bytes of a set in the frames of a shelf of n ports
abbrev pub set_bytes : ℕ → ℕ
set_bytes n = narrow

-- the bits of a set of w bytes
abbrev pub set_bits : ℕ → ℕ
set_bits w = 8 * w
