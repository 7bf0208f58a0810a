-- `import_steps::laying::lay_record` meets its contract.
use Rattle.std.proofs.Common.{sym}
use Rattle.std.proofs.lemmas.Result.{err_from_is_err_and}
use Rattle.refusals.proofs.Unique.{refused_is_not_done}
use Rattle.import_steps.specs.Taking.{known}
use Rattle.import_steps.proofs.Placing.{declined, too_short, laid}
use Rattle.import_steps.proofs.laying.lay_record.Goals as goal

pub returns-in_err-step : goal.returns-in_err-step
returns-in_err-step c =
    let is = c.in_err-step.ensures.0 in
    let why = err_from_is_err_and c.from_residual.result c.from_residual.ensures.1 in
    rw (why.1, why.2, is) (declined _ (known c.args.p) _ c.args.body.now (rw is at (refused_is_not_done c.in_err-step.field-0.0)))

pub returns-then-body-end : goal.returns-then-body-end
returns-then-body-end c =
    let (is, (before, packet, bytes)) = c.in_ok-step.ensures in
    too_short _ (known c.args.p) _ c.args.body.now (sym is) (rw (c.end.ensures.0, before, packet) at c.if-body-end.true)

pub returns : goal.returns
returns c =
    let (is, (before, packet, bytes)) = c.in_ok-step.ensures in
    laid _ (known c.args.p) _ c.args.body.now _ (sym is) (rw (c.end.ensures.0, before, packet) at c.if-body-end.false) (rw (before, packet, bytes) at c.place.ensures)
