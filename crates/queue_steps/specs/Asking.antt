-- The pair of an entry as a number, on shelves of at most m ports: the pair (i, t) is i * m + t.
use Rattle.std.specs.Prelude.{ℕ, ◌*◌, ◌%◌}

abbrev pub pairs : ℕ → ℕ
pairs m = m * m

abbrev pub pair_of : ℕ → ℕ → ℕ
pair_of m e = e % pairs m
