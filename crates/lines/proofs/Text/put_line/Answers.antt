use Rattle.lines.proofs.Putting.{both_put}
use Rattle.lines.proofs.Text.put_line.Goals as goal

pub returns : goal.returns
returns c = rw (← c.from.ensures) (both_put c.put_number.ensures c.put_initiators.ensures)
