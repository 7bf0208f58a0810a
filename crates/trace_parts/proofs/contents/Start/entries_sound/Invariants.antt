-- `trace_parts::contents::Start::entries_sound` meets its contract.
use mathlib.Core.Path.{◌≡◌}
use Rattle.laws.specs.Steps.{every}
use Rattle.trace_parts.specs.Contents.{entry_sound}
use Rattle.trace_parts.proofs.contents.Start.entries_sound.Given as goal

abbrev pub invariant-loop-k : goal.invariant-loop-k
invariant-loop-k l = l.sound ≡ every (entry_sound l.self.bytes.now) l.k
