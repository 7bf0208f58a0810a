-- The mode of a slot as a number, as C calls and traces write it.
use Rattle.std.specs.Prelude.{ℕ, ◌+◌, cond, ◌==◌}
use Rattle.ports.specs.declared.state.Mode.{Mode}
use Rattle.ports.specs.declared.state.Mode.TheVariants.{Central, Distributed, Diagonal}

-- the number after the greatest round limit m
abbrev pub diagonal_mode : ℕ → ℕ
diagonal_mode m = m + 1

-- on shelves of at most m ports mode 0 is central, mode m + 1 diagonal-first, and any other mode is the round limit
unfoldable pub mode_of : ℕ → ℕ → Mode
mode_of m mode = cond (mode == 0) Central (cond (mode == diagonal_mode m) Diagonal (Distributed mode))
