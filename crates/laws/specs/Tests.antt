-- Tests of numbers.
use Rattle.std.specs.Prelude.{ℕ, Bool, ◌&&◌, leb}

-- x is from a to b
abbrev pub between : ℕ → ℕ → ℕ → Bool
between a b x = leb a x && leb x b
