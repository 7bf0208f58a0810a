-- `queue_steps::stepping::scheduled` meets its contract.
use borrow.Author.Tests.{lt-ltb, le-ltb}
use Rattle.std.proofs.lemmas.Result.{err_from_is_err_and}
use Rattle.refusals.proofs.Unique.{refused_is_not_done}
use Rattle.queue_steps.specs.Step.{roomy}
use Rattle.queue_steps.proofs.Serves.{roomy-declined}
use Rattle.queue_steps.proofs.stepping.scheduled.Goals as goal

pub returns-in_err-served : goal.returns-in_err-served
returns-in_err-served c =
    let p = err_from_is_err_and c.from_residual.result c.from_residual.ensures.1 in
    rw (p.1, p.2, ← c.requests.ensures, ← c.empty_table.ensures, ← c.in_err-served.ensures) (roomy-declined _ _ _ _ _ (refused_is_not_done c.in_err-served.field-0.0))

pub returns-then-room-state : goal.returns-then-room-state
unfolding roomy
returns-then-room-state c = rw (← c.requests.ensures, ← c.empty_table.ensures, ← c.in_ok-served.ensures, lt-ltb _ _ c.if-room-state.true)

pub returns : goal.returns
unfolding roomy
returns c = rw (← c.requests.ensures, ← c.empty_table.ensures, ← c.in_ok-served.ensures, le-ltb _ _ c.if-room-state.false)
