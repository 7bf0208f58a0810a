-- `trace_parts::contents::read_entry` meets its contract.
use mathlib.Core.Path.{sym, ◌∙◌}
use native.Mathlib.Omega.{arith}
use Rattle.std.proofs.lemmas.Result.{err_from_is_err_and}
use Rattle.laws.proofs.Tests.{refuted}
use Rattle.frames.specs.Part.{most_ports}
use Rattle.trace_parts.specs.Contents.{has_entry}
use Rattle.trace_parts.proofs.ContentsLaws.{there}
use Rattle.trace_parts.proofs.contents.read_entry.Goals as goal

pub returns-in_err-held : goal.returns-in_err-held
returns-in_err-held c =
    let p = err_from_is_err_and c.from_residual.result c.from_residual.ensures.1 in
    let not = refuted (has_entry most_ports c.args.start.now c.args.k) (λ e. omega (arith, (there most_ports c.args.start.now c.args.k e).0, c.in_err-held.ensures.1)) in
    rw (p.1, p.2, c.in_err-held.ensures.0, not)

pub entry-entry-requires : goal.entry-entry-requires
entry-entry-requires c = (there _ _ _ (sym c.has_entry.ensures ∙ c.if-has_entry.true)).0

pub returns-then-has_entry : goal.returns-then-has_entry
returns-then-has_entry c =
    let has = rw c.in_ok-held.ensures at (sym c.has_entry.ensures ∙ c.if-has_entry.true) in
    rw (has, c.body_len-len.ensures.0, c.ports.ensures.0, c.entry-entry.ensures, c.in_ok-held.ensures)

pub returns : goal.returns
returns c =
    let not = rw c.in_ok-held.ensures at (sym c.has_entry.ensures ∙ c.if-has_entry.false) in
    rw not
