use Rattle.lcf.specs.Slot.{ended}
use Rattle.lcf.proofs.slot.Due.finish.Goals as goal

pub returns : goal.returns
unfolding ended
returns c = rw (← c.serve.ensures.0, ← c.serve.ensures.1, c.advance.ensures)
