-- `long_check::tables::fill` meets its contract.
use Rattle.long_check.proofs.Filling.{Grown}
use Rattle.long_check.proofs.tables.fill.Given as goal

abbrev pub invariant-loop-b : goal.invariant-loop-b
invariant-loop-b l = Grown l.from l.x l.b l.initial.t l.t l.y
