use Rattle.std.proofs.Common.{◌≡◌}
use Rattle.choices.specs.Live.{any_live}
use Rattle.choices.proofs.sets.any_live.Given as goal

abbrev pub invariant-loop-i : goal.invariant-loop-i
invariant-loop-i l = l.found ≡ any_live l.live l.i
