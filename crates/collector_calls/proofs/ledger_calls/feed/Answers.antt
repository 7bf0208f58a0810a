use Rattle.frames.specs.Part.{most_ports}
use Rattle.collector_calls.proofs.Ledgers.{wrong_tables, fed}
use Rattle.collector_calls.proofs.ledger_calls.feed.Goals as goal

pub returns-then-asked-connected : goal.returns-then-asked-connected
returns-then-asked-connected c = wrong_tables most_ports _ _ _ _ c.if-asked-connected.true

pub returns : goal.returns
returns c = fed most_ports _ _ _ _ _ _ _ _ c.if-asked-connected.false c.table_in.ensures c.table_in-2.ensures c.feed_lent.ensures
