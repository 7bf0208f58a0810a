use Prim.Native.Nat.{◌≤◌, ◌-◌}
use Rattle.frames.specs.Part.{most_ports}
use Rattle.shelf.proofs.Hearing.{Heard}
use Rattle.shelf.proofs.hosts.hear.Given as goal

abbrev pub invariant-loop-h : goal.invariant-loop-h
invariant-loop-h l = (l.h ≤ l.ports) × Heard most_ports l.ports l.block l.h l.heard l.req l.pre l.ben

abbrev pub decreases-loop-h : goal.decreases-loop-h
decreases-loop-h l = l.ports - l.h
