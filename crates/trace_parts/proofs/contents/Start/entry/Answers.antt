-- `trace_parts::contents::Start::entry` meets its contract.
use Rattle.std.proofs.Common.{◌≡◌, ◌+◌, ◌*◌}
use mathlib.Core.Path.{sym, ap, ◌∙◌}
use native.Mathlib.Omega.{arith}
use Rattle.laws.specs.Bytes.{number}
use Rattle.words.proofs.BytesAt.{two_at}
use Rattle.trace_parts.specs.Contents.{entry_of}
use Rattle.trace_parts.proofs.contents.Start.entry.Goals as goal

pub returns : goal.returns
unfolding entry_of
returns c =
    let s = c.args.self.now.bytes.now in
    let at = 3 + c.args.k * 10 in
    let next : at + 4 + 1 ≡ at + 5 = omega arith in
    let slots = c.of_two.ensures ∙ ap number (sym (rw next at (two_at s (at + 4) (omega (arith, c.requires))))) in
    rw (c.long-2.ensures, slots, c.long.ensures)
