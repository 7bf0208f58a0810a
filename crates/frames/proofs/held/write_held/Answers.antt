-- `frames::held::write_held` meets its contract.
use mathlib.Core.Path.{refl, sym, ◌∙◌}
use Rattle.frames.specs.Width.{narrow}
use Rattle.frames.specs.Frame.{written}
use Rattle.frames.specs.Held.{held_len}
use Rattle.frames.proofs.FrameLaws.{put_frame}
use Rattle.frames.proofs.HeldLaws.{length_held}
use Rattle.frames.proofs.held.write_held.Goals as goal

pub returns-then-in_form : goal.returns-then-in_form
returns-then-in_form c =
    let formed = sym c.in_form.ensures ∙ c.if-in_form.true in
    let long = length_held narrow c.args.g in
    rw formed (put_frame (held_len narrow) _ _ _ _ _ c.frame.ensures long c.put.ensures)

pub returns : goal.returns
unfolding written
returns c =
    let not = sym c.in_form.ensures ∙ c.if-in_form.false in
    rw not (refl, refl)
