-- `traces::trace::trace_head` meets its contract.
use Rattle.std.proofs.lemmas.Result.{err_from_is_err_and}
use Rattle.traces.proofs.TraceLaws.{unfit, fits, told, refused}
use Rattle.traces.proofs.trace.trace_head.Goals as goal

pub returns-in_err-head : goal.returns-in_err-head
returns-in_err-head c =
    let p = err_from_is_err_and c.from_residual.result c.from_residual.ensures.1 in
    rw (p.1, p.2) (unfit _ c.args.file.now _ c.in_err-head.ensures)

pub bodies_sound-requires : goal.bodies_sound-requires
bodies_sound-requires c = fits _ c.args.file.now _ c.in_ok-head.ensures

pub returns-then-bodies_sound : goal.returns-then-bodies_sound
returns-then-bodies_sound c = told _ c.args.file.now _ c.in_ok-head.ensures _ c.bodies_sound.ensures c.if-bodies_sound.true

pub returns : goal.returns
returns c = refused _ c.args.file.now _ c.in_ok-head.ensures _ c.bodies_sound.ensures c.if-bodies_sound.false
