use Rattle.laws.proofs.Rows.{rows}
use Rattle.distributed.specs.Distributed.{askers}
use Rattle.distributed.proofs.distributed.askers.Goals as goal

pub loop-t-init : goal.loop-t-init
loop-t-init c = search rows

pub loop-t-preserved : goal.loop-t-preserved
loop-t-preserved c = search rows

pub returns : goal.returns
unfolding askers
returns c = search rows
