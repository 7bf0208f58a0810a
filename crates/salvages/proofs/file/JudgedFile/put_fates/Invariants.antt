-- `salvages::file::JudgedFile::put_fates` meets its contract.
use mathlib.Core.Path.{◌≡◌}
use mathlib.Core.List.{◌++◌}
use lib.ListN.{length, drop}
use Rattle.frames.specs.Part.{most_ports}
use Rattle.trace_writer.specs.Parts.{listed}
use Rattle.salvages.specs.Salvage.{told_at}
use Rattle.salvages.proofs.file.JudgedFile.put_fates.Given as goal

abbrev pub invariant-loop-k : goal.invariant-loop-k
invariant-loop-k l = (l.fates ≡ listed (told_at most_ports l.self.file.bytes.now) l.k ++ drop l.k l.initial.fates) × (length l.fates ≡ length l.initial.fates)
