-- The C form of a count: the number plus 256 times the cells.
use Rattle.std.specs.Prelude.{ℕ, ◌+◌, ◌*◌}
use Rattle.refusals.specs.Numbers.{Answer}

abbrev pub count_word : Answer ℕ → ℕ
count_word r = r.number + 256 * r.fields
