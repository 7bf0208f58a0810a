-- `trace_parts::contents::Start::due` meets its contract.
use mathlib.Core.Path.{◌≡◌}
use Prim.Native.Nat.{suc, ◌-◌}
use native.Mathlib.Omega.{arith}
use Rattle.trace_parts.specs.Contents.{due}
use Rattle.trace_parts.proofs.contents.Start.due.Goals as goal

pub returns-then-k-eq0 : goal.returns-then-k-eq0
unfolding due
returns-then-k-eq0 c = rw (c.if-k-eq0.true, c.contents_len.ensures.0, c.count.ensures)

pub returns : goal.returns
unfolding due
returns c =
    let k = c.args.k in
    let more : k ≡ suc (k - 1) = omega arith in
    rw (more, c.end_of.ensures, c.entry.ensures, c.ports.ensures.0)
