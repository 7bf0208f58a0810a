-- `frame_calls::reading::show_part` meets its contract.
use mathlib.Core.Path.{ap, ◌∙◌}
use borrow.Author.Tests.{eq-eqb, ne_eqb}
use Rattle.refusals.specs.Numbers.{number_of}
use Rattle.refusals.proofs.Unique.{refused_is_not_done}
use Rattle.lent.proofs.Fills.{unfit, declines, fills}
use Rattle.frame_calls.proofs.Parts.{shown}
use Rattle.frame_calls.proofs.reading.show_part.Goals as goal

pub returns-then-part-len : goal.returns-then-part-len
returns-then-part-len g c = unfit _ _ _ _ (ne_eqb _ _ c.if-part-len.true)

pub returns-in-Ok : goal.returns-in-Ok
returns-in-Ok g c =
    fills _ _ _ _ (eq-eqb _ _ c.if-part-len.false) (ap number_of c.in-Ok.is) _ (c.copy_from_slice.ensures.after ∙ shown _ c.args.frame.now c.requires.0)

pub returns-in-Err : goal.returns-in-Err
returns-in-Err g c = rw c.in-Err.is (declines _ _ _ _ (eq-eqb _ _ c.if-part-len.false) (refused_is_not_done c.in-Err.why))
