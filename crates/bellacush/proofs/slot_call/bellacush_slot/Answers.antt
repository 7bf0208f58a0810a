use Rattle.frames.specs.Part.{most_ports}
use Rattle.bellacush.proofs.Slots.{wrong_state, wrong_table, ran}
use Rattle.bellacush.proofs.slot_call.bellacush_slot.Goals as goal

pub returns-in_default : goal.returns-in_default
returns-in_default c = wrong_state most_ports _ _ _ _ _ _ _ c.in_default.ensures.cases

pub returns-in_default-as_mut_array : goal.returns-in_default-as_mut_array
returns-in_default-as_mut_array c =
    let nine = c.in-Some.ensures.cases in
    rw nine.same (wrong_table most_ports _ _ _ _ _ _ _ nine.long c.in_default-as_mut_array.ensures.cases)

pub returns : goal.returns
returns c =
    let nine = c.in-Some.ensures.cases in
    let whole = c.in-Some-as_mut_array.ensures.cases in
    ran most_ports _ _ _ _ _ _ _ _ _ _ _ _ _ _ nine.long whole.long (rw nine.same at c.state_in.ensures) c.from.ensures c.step-stepped.ensures (rw (nine.same, whole.same) at c.finish_call.ensures)
