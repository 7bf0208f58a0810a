use Rattle.std.proofs.Common.{◌≡◌, ◌-◌, get_or, bit_and}
use Rattle.laws.specs.Sets.{tabled}
use Rattle.frames.specs.Part.{most_ports}
use Rattle.choices.proofs.join.clear_columns.Given as goal

abbrev pub invariant-loop-i : goal.invariant-loop-i
invariant-loop-i l = l.left ≡ tabled most_ports (λ k. get_or l.rows k 0 - bit_and (get_or l.rows k 0) l.gone) l.i
