-- What a program makes of a file s that holds no more of it than a start and a body at a time; where at most m ports are allowed. It judges what the
-- file has of each body; then it writes contents of the entries kept, and copies each body that is kept.
use Rattle.std.specs.Prelude.{ℕ, cond, List, [], ◌++◌, take}
use Rattle.laws.specs.Parts.{part, parts}
use Rattle.laws.specs.Steps.{steps}
use Rattle.trace_parts.specs.Contents.{ports_of, count_of, read_entry}
use Rattle.trace_writer.specs.Writer.{contents_of}
use Rattle.body_fates.specs.Fate.{is_kept}
use Rattle.body_fates.specs.Judged.{none_judged, judge, fate_of}
use Rattle.body_fates.specs.declared.judging.Judged.{Judged}

module _ (m : ℕ) (start s : List ℕ) where
  -- what the file has of body k, by the entry that the start shows
  abbrev pub body_read : ℕ → List ℕ
  body_read k = part (read_entry m start k).fields.entry.offset (read_entry m start k).fields.len s

  abbrev pub judged_read : Judged
  judged_read =
      steps (λ k. judge m (ports_of start) (read_entry m start k).fields.entry.first (read_entry m start k).fields.entry.slots (body_read k)) none_judged (count_of start)

  abbrev pub written_read : Judged → List ℕ
  written_read j =
      contents_of (ports_of start) (take j.kept j.firsts) (take j.kept j.slots)
      ++ parts (λ k. cond (is_kept (fate_of j k)) (body_read k) []) (count_of start)
