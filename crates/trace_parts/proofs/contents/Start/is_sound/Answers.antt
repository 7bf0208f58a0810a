-- `trace_parts::contents::Start::is_sound` meets its contract.
use mathlib.Core.Path.{sym}
use Prim.Native.Nat.{◌≤◌, ◌<◌}
use native.Mathlib.Omega.{arith}
use lib.ListN.{length}
use lib.Seq.{length-take-le}
use borrow.Author.Tests.{le-leb, lt-leb}
use Rattle.trace_parts.specs.Contents.{contents_end, contents_sound}
use Rattle.trace_parts.proofs.contents.Start.is_sound.Goals as goal

pub returns-then-self-end : goal.returns-then-self-end
unfolding contents_sound
returns-then-self-end c =
    let s = c.args.self.now.bytes.now in
    let short : length s < contents_end s = omega (arith, c.count-count.ensures) in
    rw (lt-leb _ _ short)

pub slice_bounds-intact-end : goal.slice_bounds-intact-end
slice_bounds-intact-end c = sym (length-take-le _ _ (omega arith))

pub returns : goal.returns
unfolding contents_sound
returns c =
    let count = c.count-count.ensures in
    let s = c.args.self.now.bytes.now in
    let long : contents_end s ≤ length s = omega (arith, count) in
    rw (le-leb _ _ long, c.entries_sound.ensures, c.ports_sound.ensures, c.ports.ensures.0, c.intact.ensures, c.contents_len-end.ensures.0, count)
