use Rattle.frames.specs.Part.{most_ports}
use Rattle.ledger.proofs.LentLaws.{lent_figures}
use Rattle.ledger.proofs.EventLaws.{zero_or_one}
use Rattle.ledger.proofs.lent.pair_figures.Goals as goal

pub returns : goal.returns
returns c = rw c.at-at.ensures (lent_figures most_ports c.args.words.now c.told-words _ _ c.args.pair.inside.0 c.args.pair.inside.1 c.low.ensures (rw (c.from.ensures, zero_or_one, c.holds.ensures)))
