use Rattle.std.proofs.Common.{◌≡◌}
use Rattle.columns.specs.Serving.{counted}
use Rattle.columns.proofs.serving.counted.Given as goal

abbrev pub invariant-loop-side : goal.invariant-loop-side
invariant-loop-side l = l.p ≡ counted l.sides l.side-index
