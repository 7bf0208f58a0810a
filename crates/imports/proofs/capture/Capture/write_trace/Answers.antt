-- `imports::capture::Capture::write_trace` meets its contract.
use Rattle.std.proofs.Common.{ap, ◌∙◌, length, arith}
use Rattle.trace_parts.specs.Layout.{contents_len}
use Rattle.imports.proofs.Good.{good_of}
use Rattle.imports.proofs.Whole.{counts_few, contents_room, bodies_room, trace_is}
use Rattle.imports.proofs.capture.Capture.write_trace.Goals as goal

pub overflow_cast-slots : goal.overflow_cast-slots
overflow_cast-slots c =
    let s = c.args.self in
    omega (arith, ap length c.requires.2, counts_few _ _ (good_of s.order s.start s.bytes.now s.fresh))

pub slice_bounds-lay_bodies-count : goal.slice_bounds-lay_bodies-count
slice_bounds-lay_bodies-count c =
    let s = c.args.self in
    omega (arith, c.contents_len-at.ensures.0, ap length c.requires.2, contents_room _ _ (good_of s.order s.start s.bytes.now s.fresh) _ c.requires.3)

pub slice_bounds-lay_bodies-start : goal.slice_bounds-lay_bodies-start
slice_bounds-lay_bodies-start c = omega (arith, slice_bounds-lay_bodies-count c)

pub lay_bodies-requires : goal.lay_bodies-requires
lay_bodies-requires c =
    let s = c.args.self in
    let is = c.contents_len-at.ensures.0 ∙ ap (λ l. contents_len (length l)) c.requires.2 in
    (c.requires.0, bodies_room _ _ (good_of s.order s.start s.bytes.now s.fresh) c.args.out.now c.write_contents.new.out c.contents_len-at.result is c.requires.3 c.out-1.given)

pub returns : goal.returns
returns c =
    let s = c.args.self in
    let is = c.contents_len-at.ensures.0 ∙ ap (λ l. contents_len (length l)) c.requires.2 in
    let one = rw (c.requires.1, c.requires.2) at c.write_contents.ensures.1 in
    (c.lay_bodies.ensures.0, trace_is _ _ (good_of s.order s.start s.bytes.now s.fresh) c.args.out.now _ c.contents_len-at.result is c.requires.3 _ one c.lay_bodies.ensures.1)
