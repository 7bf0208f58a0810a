-- `salvages::file::WholeFile::judged` meets its contract.
use mathlib.Core.Path.{◌≡◌}
use Rattle.frames.specs.Part.{most_ports}
use Rattle.salvages.specs.Whole.{judged_of}
use Rattle.salvages.proofs.file.WholeFile.judged.Given as goal

abbrev pub invariant-loop-k : goal.invariant-loop-k
invariant-loop-k l = l.judged ≡ judged_of most_ports l.self.bytes.now l.k
