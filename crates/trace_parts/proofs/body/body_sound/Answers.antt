-- `trace_parts::body::body_sound` meets its contract.
use mathlib.Core.Path.{sym, ◌∙◌}
use native.Mathlib.Omega.{arith}
use Rattle.trace_parts.specs.Body.{body_sound}
use Rattle.trace_parts.proofs.BodyLaws.{completed, least_body}
use Rattle.trace_parts.proofs.body.body_sound.Goals as goal

pub fields_of-requires : goal.fields_of-requires
fields_of-requires c =
    let a = c.args in
    let whole = completed _ a.n a.slots a.body.now (sym c.complete.ensures ∙ c.if-complete.true) in
    omega (arith, whole.long, least_body a.n a.slots)

pub returns-then-complete : goal.returns-then-complete
unfolding body_sound
returns-then-complete c = rw (← c.complete.ensures, c.if-complete.true, c.formed.ensures, c.fields_of.ensures, c.intact.ensures)

pub returns : goal.returns
unfolding body_sound
returns c = rw (← c.complete.ensures, c.if-complete.false)
