use Rattle.std.proofs.Common.{get_or, w16, Fits, rules}
use Rattle.laws.proofs.Loops.{done}
use Rattle.laws.proofs.Rows.{rows}
use Rattle.frames.specs.Part.{most_ports}
use Rattle.ports.proofs.Seen.{as_ports_see}
use Rattle.ports.proofs.tables.within.Goals as goal

pub loop-i-init : goal.loop-i-init
loop-i-init c = search rows

pub loop-i-preserved : goal.loop-i-preserved
loop-i-preserved c = search rows

pub returns : goal.returns
returns c =
    as_ports_see most_ports _ _ c.args.rows (search rules)
    (λ i. let fact : Fits w16 (get_or c.args.rows i 0) = search rules in fact.fits)
    c.at_most-ports.ensures (done _ _ _ _ c.loop-i.invariant (search rules) (search rules))
