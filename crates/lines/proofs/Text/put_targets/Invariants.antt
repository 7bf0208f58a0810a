use Rattle.laws.specs.Parts.{parts}
use Rattle.lines.specs.Line.{target}
use Rattle.lines.specs.Put.{Puts}
use Rattle.lines.proofs.Text.put_targets.Given as goal

abbrev pub invariant-loop-t : goal.invariant-loop-t
invariant-loop-t l = Puts l.initial.self (parts (target l.set) l.t) l.self
