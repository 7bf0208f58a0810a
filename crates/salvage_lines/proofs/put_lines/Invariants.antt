use Rattle.laws.specs.Parts.{parts}
use Rattle.frames.specs.Part.{most_ports}
use Rattle.lines.specs.Put.{Puts}
use Rattle.salvage_lines.specs.Dropped.{line_of}
use Rattle.salvage_lines.proofs.put_lines.Given as goal

abbrev pub invariant-loop-k : goal.invariant-loop-k
invariant-loop-k l = Puts l.initial.to (parts (line_of most_ports l.contents l.judged) l.k) l.to
