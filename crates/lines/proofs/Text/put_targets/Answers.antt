use Rattle.lines.proofs.Putting.{none_put, part_put}
use Rattle.lines.proofs.Text.put_targets.Goals as goal

pub loop-t-init : goal.loop-t-init
loop-t-init c = none_put _ _

pub loop-t-preserved : goal.loop-t-preserved
loop-t-preserved c = part_put _ _ c.loop-t.invariant c.put_target.ensures
