use Rattle.std.proofs.Common.{get_or}
use Rattle.frames.specs.Part.{most_ports}
use Rattle.laws.specs.Parts.{parts}
use Rattle.lines.specs.Line.{initiator}
use Rattle.lines.specs.Put.{Puts}
use Rattle.lines.proofs.Text.put_initiators.Given as goal

abbrev pub invariant-loop-i : goal.invariant-loop-i
invariant-loop-i l = Puts l.initial.self (parts (λ k. initiator most_ports k (get_or l.fn.sets k 0)) l.i) l.self
