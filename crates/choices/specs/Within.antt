-- The choice and the places of a rotation as calls answer them, for all numbers: the start itself, or 0, where a number is none of a port.
use Rattle.std.specs.Prelude.{ℕ, Bool, ◌&&◌, cond, ltb, leb}
use Rattle.choices.specs.Choice.{place, turned, choice}

-- x is one of n ports, and n at most m
abbrev pub is_port : ℕ → ℕ → ℕ → Bool
is_port m n x = leb n m && ltb x n

unfoldable pub choice_within : ℕ → (ℕ → Bool) → (ℕ → ℕ) → ℕ → ℕ → ℕ
choice_within m p f n a = cond (is_port m n a) (choice p f n a) a

unfoldable pub place_within : ℕ → ℕ → ℕ → ℕ → ℕ
place_within m n a k = cond (is_port m n a && ltb k n) (place n a k) 0

unfoldable pub turned_within : ℕ → ℕ → ℕ → ℕ → ℕ → ℕ
turned_within m n a x y = cond (is_port m n a && (ltb x n && ltb y n)) (turned n a x y) 0
