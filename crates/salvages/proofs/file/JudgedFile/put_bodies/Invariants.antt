-- `salvages::file::JudgedFile::put_bodies` meets its contract.
use mathlib.Core.Path.{◌≡◌}
use mathlib.Core.List.{◌++◌}
use lib.ListN.{length, drop}
use Rattle.frames.specs.Part.{most_ports}
use Rattle.salvages.specs.Salvage.{kept_bodies}
use Rattle.salvages.proofs.file.JudgedFile.put_bodies.Given as goal

abbrev pub invariant-loop-k : goal.invariant-loop-k
invariant-loop-k l = (l.at ≡ length (kept_bodies most_ports l.self.file.bytes.now l.k)) × (l.out ≡ kept_bodies most_ports l.self.file.bytes.now l.k ++ drop (length (kept_bodies most_ports l.self.file.bytes.now l.k)) l.initial.out) × (length l.out ≡ length l.initial.out)
