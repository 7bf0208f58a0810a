use Rattle.lines.specs.Line.{initiator}
use Rattle.lines.proofs.Putting.{both_put}
use Rattle.lines.proofs.Text.put_initiator.Goals as goal

pub returns : goal.returns
unfolding initiator
returns c = both_put (both_put (both_put c.put_byte.ensures c.put_number.ensures) c.put_byte-2.ensures) c.put_targets.ensures
