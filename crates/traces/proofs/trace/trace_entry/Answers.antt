-- `traces::trace::trace_entry` meets its contract.
use mathlib.Core.Path.{◌∙◌}
use Rattle.std.proofs.lemmas.Result.{err_from_is_err_and}
use Rattle.traces.proofs.TraceLaws.{entry_told, entry_refused}
use Rattle.traces.proofs.trace.trace_entry.Goals as goal

pub returns-in_err-trace_head : goal.returns-in_err-trace_head
returns-in_err-trace_head c =
    let p = err_from_is_err_and c.from_residual.result c.from_residual.ensures.1 in
    rw (p.1, p.2) (entry_refused _ c.args.file.now c.args.k _ c.in_err-trace_head.ensures)

pub returns : goal.returns
returns c = c.read_entry.ensures ∙ entry_told _ c.args.file.now c.args.k _ c.in_ok-trace_head.ensures
