use mathlib.Core.Path.{refl, ◌∙◌}
use native.Mathlib.Omega.{arith}
use Rattle.refusals.proofs.Unique.{refused_is_not_done}
use Rattle.frames.specs.Part.{most_ports}
use Rattle.ports.specs.Due.{declined}
use Rattle.bellacush.proofs.Slots.{told, kept, stored}
use Rattle.bellacush.proofs.slot_call.finish_call.Goals as goal

pub returns-in-Ok : goal.returns-in-Ok
returns-in-Ok c =
    rw c.in-Ok.is (told (omega arith) (stored most_ports _ _ _ _ _ refl (omega arith) c.put_table.ensures.1 (c.copy_from_slice.ensures.after ∙ c.state_bytes.ensures) c.put_table.ensures.0))

pub returns-in-Err : goal.returns-in-Err
unfolding declined
returns-in-Err c = rw c.in-Err.is (told (omega (arith, c.number.ensures)) (kept _ _ _ (refused_is_not_done c.in-Err.why)))
