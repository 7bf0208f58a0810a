-- `trace_writer::listing::Listing::bodies_sound` meets its contract: after k turns the first k bodies are tested, and `at` is where body k starts.
use mathlib.Core.Path.{◌≡◌}
use Prim.Native.Nat.{◌≤◌, ◌*◌}
use Rattle.laws.specs.Steps.{every}
use Rattle.frames.specs.Part.{most_ports}
use Rattle.trace_writer.specs.Writer.{start_of, joined_sound}
use Rattle.trace_writer.proofs.listing.Listing.bodies_sound.Given as goal

abbrev pub invariant-loop-count : goal.invariant-loop-count
invariant-loop-count l =
    (l.at ≡ start_of l.self.ports l.self.slots.now l.count-index) × (l.at ≤ l.count-index * 268435456) × (l.sound ≡ every (joined_sound most_ports l.self.ports l.self.slots.now l.bodies) l.count-index)
