use Rattle.std.proofs.Common.{◌≡◌}
use Rattle.laws.specs.Sets.{tabled}
use Rattle.columns.specs.Transpose.{part}
use Rattle.columns.proofs.transpose.columns.Given as goal

abbrev pub invariant-loop-t : goal.invariant-loop-t
invariant-loop-t l = l.sides ≡ tabled 16 (part l.words) l.t
