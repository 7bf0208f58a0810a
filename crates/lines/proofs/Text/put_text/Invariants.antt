use Rattle.std.proofs.Common.{take}
use Rattle.lines.specs.Put.{Puts}
use Rattle.lines.proofs.Text.put_text.Given as goal

abbrev pub invariant-loop-b : goal.invariant-loop-b
invariant-loop-b l = Puts l.initial.self (take l.b-index l.text) l.self
