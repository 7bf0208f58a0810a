-- `long_check::tables::double` meets its contract.
use Rattle.long_check.specs.Zeros.{Doubled}
use Rattle.long_check.proofs.tables.double.Given as goal

abbrev pub invariant-loop-i : goal.invariant-loop-i
invariant-loop-i l = Doubled l.from l.n l.i l.x l.initial.t l.t
