use mathlib.Core.Path.{refl}
use Rattle.ports.specs.Due.{declined}
use Rattle.replays.proofs.Body.replay_next.Goals as goal

pub returns-in-Err : goal.returns-in-Err
unfolding declined
returns-in-Err c = rw (← c.in-Err.ensures, ← c.empty_table.ensures) (refl, c.put_table-in-Err.ensures.0)
