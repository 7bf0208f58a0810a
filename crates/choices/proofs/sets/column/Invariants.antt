use Rattle.std.proofs.Common.{◌≡◌}
use Rattle.laws.specs.Sets.{column}
use Rattle.choices.proofs.sets.column.Given as goal

abbrev pub invariant-loop-i : goal.invariant-loop-i
invariant-loop-i l = l.s ≡ column l.rows l.i l.t.0
