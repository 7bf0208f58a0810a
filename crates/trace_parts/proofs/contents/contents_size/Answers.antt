-- `trace_parts::contents::contents_size` meets its contract.
use mathlib.Core.Path.{refl}
use native.Mathlib.Omega.{arith}
use borrow.Author.Tests.{le-leb, lt-leb}
use Rattle.trace_parts.specs.Contents.{contents_size}
use Rattle.trace_parts.proofs.contents.contents_size.Goals as goal

pub returns-in_default : goal.returns-in_default
unfolding contents_size
returns-in_default c = rw (lt-leb _ _ c.in_default.ensures.1) (refl, tt)

pub returns-then-count-gt-BODIES : goal.returns-then-count-gt-BODIES
unfolding contents_size
returns-then-count-gt-BODIES c =
    let count = rw c.in-Ok.ensures at c.count-count.ensures in
    rw (le-leb _ _ (rw c.in-Ok.ensures at c.in-Ok.held.holds_head), ← count, lt-leb _ _ c.if-count-gt-BODIES.true) (refl, tt)

pub returns : goal.returns
unfolding contents_size
returns c =
    let count = rw c.in-Ok.ensures at c.count-count.ensures in
    rw (le-leb _ _ (rw c.in-Ok.ensures at c.in-Ok.held.holds_head), ← count, le-leb _ _ c.if-count-gt-BODIES.false) (c.contents_len.ensures.0, (omega arith, omega arith))
