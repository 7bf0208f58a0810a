use Rattle.std.proofs.Common.{◌≡◌}
use Rattle.planned.specs.Planned.{given}
use Rattle.planned.proofs.planned.give_all.Given as goal

abbrev pub invariant-loop-t : goal.invariant-loop-t
invariant-loop-t l = l.now ≡ given l.shelf.state l.pre l.initial.now l.t
