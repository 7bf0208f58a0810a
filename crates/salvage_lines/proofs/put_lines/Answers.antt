use Rattle.lines.proofs.Putting.{none_put, part_put}
use Rattle.salvage_lines.proofs.put_lines.Goals as goal

pub loop-k-init : goal.loop-k-init
loop-k-init c = none_put _ _

pub loop-k-preserved : goal.loop-k-preserved
loop-k-preserved c = part_put _ _ c.loop-k.invariant c.put_line.ensures
