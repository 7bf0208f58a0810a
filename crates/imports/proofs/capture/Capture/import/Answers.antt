-- `imports::capture::Capture::import` meets its contract.
use Rattle.std.proofs.Common.{refl, sym, ap, ◌∙◌}
use Rattle.std.proofs.lemmas.Result.{err_from_is_err_and}
use Rattle.refusals.proofs.Unique.{refused_is_not_done}
use Rattle.import_steps.specs.Taking.{known}
use Rattle.imports.specs.Import.{refused}
use Rattle.imports.specs.Passes.{cut_of}
use Rattle.imports.proofs.Good.{good_of}
use Rattle.imports.proofs.Whole.{cut-declined, cut_short, cut_done, length_known, known_small, noted_long, prefix_within}
use Rattle.imports.proofs.capture.Capture.import.Goals as goal

pub returns-in_err-p : goal.returns-in_err-p
returns-in_err-p c =
    let s = c.args.self in
    let g = cut_of s.order s.start s.bytes.now in
    let is = c.in_err-p.ensures.number in
    let why = err_from_is_err_and c.from_residual.result c.from_residual.ensures.1 in
    rw (why.1, why.2)
    (cut-declined s.start.state.ports g c.args.out.now g.known refl _ (λ z. refused_is_not_done c.in_err-p.field-0.0 (is ∙ z)) (ap refused is))

pub trace_len-length-requires : goal.trace_len-length-requires
trace_len-length-requires c =
    let s = c.args.self in
    known_small s.start.state.ports (cut_of s.order s.start s.bytes.now) c.args.out.now (known c.in_ok-p.p) c.in_ok-p.ensures.known.0 (good_of s.order s.start s.bytes.now s.fresh)

pub returns-then-out-length : goal.returns-then-out-length
returns-then-out-length c =
    let s = c.args.self in
    let is = length_known s.start.state.ports (cut_of s.order s.start s.bytes.now) c.args.out.now (known c.in_ok-p.p) c.in_ok-p.ensures.known.0 (good_of s.order s.start s.bytes.now s.fresh) in
    cut_short _ _ _ (known c.in_ok-p.p) c.in_ok-p.ensures.known.0 _ refl (rw (c.trace_len-length.ensures ∙ is) at c.if-out-length.true) refl

pub slice_bounds-write_trace-end : goal.slice_bounds-write_trace-end
slice_bounds-write_trace-end c =
    let s = c.args.self in
    noted_long s.start.state.ports (cut_of s.order s.start s.bytes.now) c.args.out.now (known c.in_ok-p.p) c.in_ok-p.ensures.known.0 (good_of s.order s.start s.bytes.now s.fresh) _ _ c.in_ok-p.ensures.known.1

pub slice_bounds-firsts-end : goal.slice_bounds-firsts-end
slice_bounds-firsts-end c =
    let s = c.args.self in
    prefix_within _ _ (noted_long s.start.state.ports (cut_of s.order s.start s.bytes.now) c.args.out.now (known c.in_ok-p.p) c.in_ok-p.ensures.known.0 (good_of s.order s.start s.bytes.now s.fresh) _ _ c.in_ok-p.ensures.known.1)

pub slice_bounds-write_trace-end-2 : goal.slice_bounds-write_trace-end-2
slice_bounds-write_trace-end-2 c =
    let s = c.args.self in
    noted_long s.start.state.ports (cut_of s.order s.start s.bytes.now) c.args.out.now (known c.in_ok-p.p) c.in_ok-p.ensures.known.0 (good_of s.order s.start s.bytes.now s.fresh) _ _ c.in_ok-p.ensures.known.2

pub slice_bounds-slots-end : goal.slice_bounds-slots-end
slice_bounds-slots-end c =
    let s = c.args.self in
    prefix_within _ _ (noted_long s.start.state.ports (cut_of s.order s.start s.bytes.now) c.args.out.now (known c.in_ok-p.p) c.in_ok-p.ensures.known.0 (good_of s.order s.start s.bytes.now s.fresh) _ _ c.in_ok-p.ensures.known.2)

pub write_trace-requires : goal.write_trace-requires
write_trace-requires c =
    let s = c.args.self in
    let is = length_known s.start.state.ports (cut_of s.order s.start s.bytes.now) c.args.out.now (known c.in_ok-p.p) c.in_ok-p.ensures.known.0 (good_of s.order s.start s.bytes.now s.fresh) in
    (sym c.in_ok-p.ensures.number, c.in_ok-p.ensures.known.1, c.in_ok-p.ensures.known.2, rw (c.trace_len-length.ensures ∙ is) at c.if-out-length.false)

pub returns : goal.returns
returns c =
    let s = c.args.self in
    let is = c.trace_len-length.ensures ∙ length_known s.start.state.ports (cut_of s.order s.start s.bytes.now) c.args.out.now (known c.in_ok-p.p) c.in_ok-p.ensures.known.0 (good_of s.order s.start s.bytes.now s.fresh) in
    cut_done _ _ _ (known c.in_ok-p.p) c.in_ok-p.ensures.known.0 _ _ refl (rw is at c.if-out-length.false) (rw is) c.in_ok-write_trace.ensures.1
