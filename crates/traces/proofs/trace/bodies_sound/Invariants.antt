-- `traces::trace::bodies_sound` meets its contract.
use mathlib.Core.Path.{◌≡◌}
use Rattle.laws.specs.Steps.{every}
use Rattle.frames.specs.Part.{most_ports}
use Rattle.traces.specs.Trace.{sound_at}
use Rattle.traces.proofs.trace.bodies_sound.Given as goal

abbrev pub invariant-loop-k : goal.invariant-loop-k
invariant-loop-k l = l.sound ≡ every (sound_at most_ports l.s) l.k
