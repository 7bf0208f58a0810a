use Rattle.frames.specs.Part.{most_ports}
use Rattle.ledger.proofs.CountLaws.{Rows}
use Rattle.ledger.proofs.counts.raise.Given as goal

abbrev pub invariant-loop-i : goal.invariant-loop-i
invariant-loop-i l = Rows most_ports l.i l.rows l.initial.counts l.counts
