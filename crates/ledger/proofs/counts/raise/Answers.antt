use Rattle.ledger.proofs.CountLaws.{one_row}
use Rattle.ledger.proofs.counts.raise.Goals as goal

pub loop-i-preserved : goal.loop-i-preserved
loop-i-preserved c = one_row c.loop-i.invariant c.loop-i-test.true (c.fits-rows c.loop-i.i) c.raise_row.ensures.0 c.raise_row.ensures.1
