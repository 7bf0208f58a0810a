-- `body_fates::body::body_fate` meets its contract.
use mathlib.Core.Path.{sym, ◌∙◌}
use Rattle.body_fates.specs.Fate.{fate}
use Rattle.body_fates.proofs.Sound.{of-form, out_of_form}
use Rattle.body_fates.proofs.body.body_fate.Goals as goal

pub returns-in-Ok : goal.returns-in-Ok
unfolding fate
returns-in-Ok c =
    let is = sym c.complete.ensures ∙ c.if-complete.true in
    rw (is, ← c.intact.ensures, c.if-intact.true, of-form _ _ _ _ is _ c.in-Ok.ensures)

pub returns-in-Err : goal.returns-in-Err
unfolding fate
returns-in-Err c =
    let is = sym c.complete.ensures ∙ c.if-complete.true in
    rw (is, ← c.intact.ensures, c.if-intact.true, out_of_form _ _ _ _ is _ c.in-Err.ensures)

pub returns-then-complete : goal.returns-then-complete
unfolding fate
returns-then-complete c = rw (← c.complete.ensures, c.if-complete.true, ← c.intact.ensures, c.if-intact.false)

pub returns : goal.returns
unfolding fate
returns c = rw (← c.complete.ensures, c.if-complete.false)
