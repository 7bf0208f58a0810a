-- `import_calls::import_call::bellacush_import` meets its contract.
use Rattle.std.proofs.Common.{refl, ◌∙◌}
use Rattle.refusals.proofs.Unique.{refused_is_not_done}
use Rattle.import_calls.proofs.Calls.{unfit, declines, done}
use Rattle.import_calls.proofs.import_call.bellacush_import.Goals as goal

pub returns-then-report-ne-REPORT_LEN : goal.returns-then-report-ne-REPORT_LEN
returns-then-report-ne-REPORT_LEN c = unfit _ _ _ _ _ _ _ c.if-report-ne-REPORT_LEN.true

pub returns-in-Ok : goal.returns-in-Ok
returns-in-Ok c =
    let is = rw c.in-Ok.is at c.import_capture.ensures.0 in
    done _ _ _ _ _ _ c.args.report.now c.if-report-ne-REPORT_LEN.false _ _ is c.import_capture.ensures.1 _ refl (c.copy_from_slice.ensures.after ∙ c.report_bytes.ensures)

pub returns-in-Err : goal.returns-in-Err
returns-in-Err c =
    let is = rw c.in-Err.is at c.import_capture.ensures.0 in
    rw (c.from.ensures, c.number.ensures) (declines _ _ _ _ _ _ c.args.report.now c.if-report-ne-REPORT_LEN.false _ _ is c.import_capture.ensures.1 (refused_is_not_done c.in-Err.why))
