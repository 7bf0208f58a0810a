-- `trace_parts::contents::Start::has_entry` meets its contract.
use mathlib.Core.Path.{sym}
use mathlib.Core.Bool.{and-true}
use native.Mathlib.Omega.{arith}
use borrow.Author.Tests.{lt-ltb}
use Rattle.laws.proofs.Tests.{refuted}
use Rattle.trace_parts.specs.Contents.{has_entry}
use Rattle.trace_parts.proofs.ContentsLaws.{there}
use Rattle.trace_parts.proofs.contents.Start.has_entry.Goals as goal

pub returns-then-k-count : goal.returns-then-k-count
unfolding has_entry
returns-then-k-count c = rw (← c.count.ensures, lt-ltb _ _ c.if-k-count.true, c.ports_sound.ensures, c.ports.ensures.0, and-true)

pub returns : goal.returns
returns c =
    let a = c.args in
    sym (refuted _ (λ e. omega (arith, (there _ a.self.now.bytes.now a.k e).1, c.count.ensures)))
