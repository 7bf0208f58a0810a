-- `trace_parts::body::formed` meets its contract.
use Rattle.trace_parts.specs.Body.{formed}
use Rattle.trace_parts.proofs.body.formed.Goals as goal

pub returns : goal.returns
unfolding formed
returns c = rw (← c.most_mode.ensures)
