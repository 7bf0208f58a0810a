-- `import_steps::step::Step::took` meets its contract.
use Rattle.std.proofs.Common.{sym, ◌∙◌, arith}
use Rattle.import_steps.specs.Taking.{known, took}
use Rattle.import_steps.proofs.Fitting.{stepped, fitting, next-room, is_new}
use Rattle.import_steps.proofs.Rooms.{few_slots}
use Rattle.import_steps.proofs.step.Step.took.Goals as goal

pub returns-then-same_slot : goal.returns-then-same_slot
unfolding took
returns-then-same_slot c = rw (← c.same_slot.ensures, c.if-same_slot.true) c.heard.ensures

pub overflow_add-p : goal.overflow_add-p
overflow_add-p c = let p = c.args.self.before in omega (arith, next-room (known p) _ (sym c.next_slot.ensures ∙ c.if-next_slot.true), few_slots p.state.ports)

pub returns-then-next_slot : goal.returns-then-next_slot
unfolding took
returns-then-next_slot c = rw (← c.same_slot.ensures, c.if-same_slot.false, ← c.next_slot.ensures, c.if-next_slot.true) c.slot_begun.ensures

pub overflow_add-p-2 : goal.overflow_add-p-2
overflow_add-p-2 c =
    let new = is_new _ _ (sym c.same_slot.ensures ∙ c.if-same_slot.false) (sym c.next_slot.ensures ∙ c.if-next_slot.false) in
    omega (arith, (fitting _ _ (stepped _ _ _ _ c.args.self.taken).fits).room new)

pub returns : goal.returns
unfolding took
returns c = rw (← c.same_slot.ensures, c.if-same_slot.false, ← c.next_slot.ensures, c.if-next_slot.false) c.slot_begun-2.ensures
