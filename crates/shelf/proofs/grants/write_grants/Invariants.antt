use Rattle.shelf.proofs.Granting.{Granted}
use Rattle.shelf.proofs.grants.write_grants.Given as goal

abbrev pub invariant-loop-i : goal.invariant-loop-i
invariant-loop-i l = Granted l.ports l.heard l.link l.sets l.initial.out l.i l.out
