-- `traces::trace::trace_body` meets its contract.
use mathlib.Core.Path.{◌≡◌, ap, ◌∙◌}
use Prim.Native.Nat.{ℕ, ◌+◌, ◌-◌}
use native.Mathlib.Nat.{add_comm}
use native.Mathlib.Omega.{arith}
use Rattle.std.proofs.lemmas.Result.{err_from_is_err_and}
use Rattle.traces.proofs.TraceLaws.{placed, unplaced}
use Rattle.traces.proofs.trace.trace_body.Goals as goal

pub returns-in_err-read : goal.returns-in_err-read
returns-in_err-read c =
    let p = err_from_is_err_and c.from_residual.result c.from_residual.ensures.1 in
    rw (p.1, p.2) (unplaced _ c.args.file.now c.args.k _ c.in_err-read.ensures)

pub slice_bounds-result-end : goal.slice_bounds-result-end
slice_bounds-result-end c =
    let a = c.args in
    (placed _ a.file.now a.k _ c.in_ok-read.ensures).fits

pub returns : goal.returns
returns c =
    let a = c.args in
    let is = placed _ a.file.now a.k _ c.in_ok-read.ensures in
    let at = c.in_ok-read.read.entry.offset in
    let len = c.in_ok-read.read.len in
    let long : at + len - at ≡ len = omega arith in
    (rw long is.shows, ap (λ (k : ℕ). (a.file.ref_ptr.0, k)) (add_comm at a.file.ref_ptr.1 ∙ rw is.starts), is.numbered)
