use mathlib.Core.Path.{refl}
use Rattle.refusals.proofs.Unique.{refused_is_not_done}
use Rattle.frames.specs.Part.{most_ports}
use Rattle.collector_calls.proofs.Asking.{wrong_state, wrong_table, refused, found}
use Rattle.collector_calls.proofs.ledger_calls.bellacush_asked.Goals as goal

pub returns-then-state-ne-STATE_LEN : goal.returns-then-state-ne-STATE_LEN
returns-then-state-ne-STATE_LEN c = wrong_state most_ports _ _ _ c.if-state-ne-STATE_LEN.true

pub returns-then-table-ne-TABLE_LEN : goal.returns-then-table-ne-TABLE_LEN
returns-then-table-ne-TABLE_LEN c = wrong_table most_ports _ _ _ c.if-state-ne-STATE_LEN.false c.if-table-ne-TABLE_LEN.true

pub returns-in-Ok : goal.returns-in-Ok
returns-in-Ok c = found most_ports _ _ _ c.if-state-ne-STATE_LEN.false c.if-table-ne-TABLE_LEN.false _ c.state_in-read.ensures _ c.in-Ok.ensures refl _ c.put_table.ensures

pub returns-in-Err : goal.returns-in-Err
returns-in-Err c =
    rw c.number.ensures (refused most_ports _ _ _ c.if-state-ne-STATE_LEN.false c.if-table-ne-TABLE_LEN.false _ c.state_in-read.ensures _ c.in-Err.ensures (refused_is_not_done c.in-Err.why))
