-- `trace_writer::writing::write_trace` meets its contract.
use mathlib.Core.Path.{◌≡◌, sym, ◌∙◌}
use mathlib.Core.List.{append_assoc}
use Prim.Native.Nat.{◌+◌}
use lib.ListN.{length, drop}
use lib.Seq.{drop-drop}
use Rattle.trace_parts.specs.Layout.{contents_len}
use Rattle.frames.specs.Part.{most_ports}
use Rattle.lent.proofs.Writes.{unfit, short, wrote}
use Rattle.trace_writer.specs.Writer.{contents_of, trace_of}
use Rattle.trace_writer.proofs.Fitting.{bodies_decide, no_counts}
use Rattle.std.proofs.lemmas.Result.{err_from_is_err_and}
use Rattle.trace_writer.proofs.writing.write_trace.Goals as goal

pub returns-in_err-list : goal.returns-in_err-list
returns-in_err-list c =
    let p = err_from_is_err_and c.from_residual.result c.from_residual.ensures.1 in
    rw (p.1, p.2, c.in_err-list.ensures.0) (unfit _ _ _ _ (no_counts _ _ _ _ _ c.in_err-list.ensures.1))

pub returns-then-not-bodies_sound : goal.returns-then-not-bodies_sound
returns-then-not-bodies_sound c =
    let (n, f, s) = c.in_ok-list.ensures in
    unfit _ _ _ _ (bodies_decide _ _ _ _ _ _ (rw (n, f, s) at c.in_ok-list.list.fits) (rw (n, s) at c.bodies_sound.ensures) ∙ c.if-not-bodies_sound.true)

pub returns-then-out-at : goal.returns-then-out-at
returns-then-out-at c =
    let (n, f, s) = c.in_ok-list.ensures in
    let sound = bodies_decide _ _ _ _ _ _ (rw (n, f, s) at c.in_ok-list.list.fits) (rw (n, s) at c.bodies_sound.ensures) ∙ c.if-not-bodies_sound.false in
    short _ _ _ _ sound (rw (c.len-at.ensures.0, s) at c.if-out-at.true)

pub put-requires : goal.put-requires
put-requires c = c.split_at_mut-contents.ensures.front_len ∙ c.len-at.ensures.0

pub returns : goal.returns
unfolding trace_of
returns c =
    let a = c.args in
    let (n, f, s) = c.in_ok-list.ensures in
    let sound = bodies_decide most_ports a.n a.firsts.now a.slots.now a.bodies.now _ (rw (n, f, s) at c.in_ok-list.list.fits) (rw (n, s) at c.bodies_sound.ensures) ∙ c.if-not-bodies_sound.false in
    let is = rw s at c.len-at.ensures.0 in
    let contents = contents_of a.n a.firsts.now a.slots.now in
    let rest : drop (length a.bodies.now) c.split_at_mut-contents.result.1.now ≡ drop (contents_len (length a.slots.now) + length a.bodies.now) a.out.now =
    rw (c.split_at_mut-contents.ensures.back, is) (drop-drop (length a.bodies.now) (contents_len (length a.slots.now)) a.out.now) in
    wrote _ _ _ _ sound (rw is at c.if-out-at.false) _
    (rw (c.put.ensures, n, f, s, c.copy_from_slice.ensures.after, rest) (sym (append_assoc contents a.bodies.now _)))
