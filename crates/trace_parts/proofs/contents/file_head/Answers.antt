-- `trace_parts::contents::file_head` meets its contract.
use mathlib.Core.Path.{sym, ◌∙◌}
use borrow.Author.Tests.{eq-eqb, ne_eqb}
use native.Mathlib.Omega.{arith}
use Rattle.std.proofs.lemmas.Result.{err_from_is_err_and}
use Rattle.trace_parts.specs.Contents.{contents_fit}
use Rattle.trace_parts.proofs.ContentsLaws.{contents}
use Rattle.trace_parts.proofs.contents.file_head.Goals as goal

pub returns-in_err-sound : goal.returns-in_err-sound
unfolding contents_fit
returns-in_err-sound c =
    let p = err_from_is_err_and c.from_residual.result c.from_residual.ensures.1 in
    rw (p.1, p.2, c.in_err-sound.ensures.0, c.in_err-sound.ensures.1)

pub due-requires : goal.due-requires
due-requires c = rw (c.count.ensures, c.in_ok-sound.ensures.0) (omega (arith, (contents _ _ c.in_ok-sound.ensures.1).long))

pub returns-then-due-len : goal.returns-then-due-len
unfolding contents_fit
returns-then-due-len c =
    let due = rw (c.count.ensures, c.in_ok-sound.ensures.0) at c.due.ensures in
    rw (c.in_ok-sound.ensures.1, eq-eqb _ _ (sym due ∙ c.if-due-len.true), c.head.ensures, c.in_ok-sound.ensures.0)

pub returns : goal.returns
unfolding contents_fit
returns c =
    let due = rw (c.count.ensures, c.in_ok-sound.ensures.0) at c.due.ensures in
    rw (c.in_ok-sound.ensures.1, ne_eqb _ _ (λ z. c.if-due-len.false (due ∙ z)))
