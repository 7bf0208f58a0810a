use Rattle.laws.proofs.Rows.{rows}
use Rattle.choices.proofs.sets.sizes.Goals as goal

pub loop-i-init : goal.loop-i-init
loop-i-init c = search rows

pub loop-i-preserved : goal.loop-i-preserved
loop-i-preserved c = search rows

pub returns : goal.returns
returns c = search rows
