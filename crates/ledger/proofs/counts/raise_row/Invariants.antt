use Rattle.ledger.proofs.CountLaws.{Raising}
use Rattle.ledger.proofs.counts.raise_row.Given as goal

abbrev pub invariant-loop-left : goal.invariant-loop-left
invariant-loop-left l = Raising l.from l.row l.left l.initial.counts l.counts

abbrev pub decreases-loop-left : goal.decreases-loop-left
decreases-loop-left l = l.left
