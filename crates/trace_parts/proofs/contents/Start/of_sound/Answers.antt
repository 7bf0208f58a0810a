-- `trace_parts::contents::Start::of_sound` meets its contract.
use mathlib.Core.Path.{refl, sym}
use native.Mathlib.Omega.{arith}
use Rattle.std.proofs.lemmas.Result.{err_from_is_err_and}
use Rattle.laws.proofs.Tests.{refuted}
use Rattle.trace_parts.proofs.ContentsLaws.{contents}
use Rattle.trace_parts.proofs.contents.Start.of_sound.Goals as goal

pub returns-in_err-start : goal.returns-in_err-start
returns-in_err-start c =
    let p = err_from_is_err_and c.from_residual.result c.from_residual.ensures.1 in
    rw (p.1, p.2) (c.in_err-start.ensures.0, refuted _ (λ e. omega (arith, (contents _ _ e).long, c.in_err-start.ensures.1)))

pub returns-then-is_sound : goal.returns-then-is_sound
returns-then-is_sound c = (c.in_ok-start.ensures, rw (← c.in_ok-start.ensures) (sym c.if-is_sound.ensures))

pub returns : goal.returns
returns c = (refl, rw (← c.in_ok-start.ensures) (sym c.if-is_sound.ensures))
