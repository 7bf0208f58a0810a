use borrow.Author.Rules.{rules}
use Rattle.frames.specs.Part.{most_ports}
use Rattle.hearing.proofs.Hearing.{rows_counted, both_counted}
use Rattle.hearing.proofs.counted.Goals as goal

pub returns : goal.returns
returns c =
    let heard = c.args.heard in
    let good = c.well_formed in
    both_counted _ _ _ _ _ _
    (rows_counted _ heard _ _ most_ports _ _ _ (search rules) good.1.1.1.1.0.1.0.1 c.at_most-n.ensures c.present-present.ensures c.rows_of.ensures)
    (rows_counted _ heard _ _ most_ports _ _ _ (search rules) good.1.1.1.1.1.0.1.0.1 c.at_most-n.ensures c.present-present.ensures c.rows_of-2.ensures)
