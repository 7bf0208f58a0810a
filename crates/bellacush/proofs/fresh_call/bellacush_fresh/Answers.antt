use mathlib.Core.Path.{refl, ◌∙◌}
use Rattle.refusals.proofs.Unique.{refused_is_not_done}
use Rattle.frames.specs.Part.{most_ports}
use Rattle.bellacush.proofs.Fresh.{wrong_operators, wrong_state, refused, made_so}
use Rattle.bellacush.proofs.fresh_call.bellacush_fresh.Goals as goal

pub returns-in_default : goal.returns-in_default
returns-in_default c = wrong_operators most_ports _ _ _ _ c.in_default.ensures.1

pub returns-then-state-ne-STATE_LEN : goal.returns-then-state-ne-STATE_LEN
returns-then-state-ne-STATE_LEN c = wrong_state most_ports _ _ _ _ c.in-Ok.ensures.1.long c.if-state-ne-STATE_LEN.true

pub returns-in-Ok-fresh : goal.returns-in-Ok-fresh
returns-in-Ok-fresh c = made_so most_ports _ _ _ _ c.in-Ok.ensures.1.long c.if-state-ne-STATE_LEN.false _ c.in-Ok.ensures.1.same _ c.in-Ok-fresh.ensures refl _ (c.copy_from_slice.ensures.after ∙ c.state_bytes.ensures)

pub returns-in-Err : goal.returns-in-Err
returns-in-Err c =
    rw c.number.ensures (refused most_ports _ _ _ _ c.in-Ok.ensures.1.long c.if-state-ne-STATE_LEN.false _ c.in-Ok.ensures.1.same _ c.in-Err.ensures (refused_is_not_done c.in-Err.why))
