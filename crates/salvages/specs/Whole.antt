-- What the whole-file call goes by: a file of sound contents, its ports and its body count; and its bodies, judged one after the other.
use Rattle.std.specs.Prelude.{ℕ, ◌≡◌, true, List}
use Rattle.laws.specs.Steps.{steps}
use Rattle.trace_parts.specs.Contents.{ports_of, count_of, entry_of, contents_sound}
use Rattle.traces.specs.Trace.{body_at}
use Rattle.body_fates.specs.Judged.{none_judged, judge}
use Rattle.body_fates.specs.declared.judging.Judged.{Judged}

pub record Whole (m : ℕ) (s : List ℕ) (n count : ℕ) : Type 0 where
  pub sound : contents_sound m s ≡ true
  pub ports : n ≡ ports_of s
  pub all : count ≡ count_of s

-- body k, and the first k bodies
unfoldable pub judge_at : ℕ → List ℕ → ℕ → Judged → Judged
judge_at m s k = judge m (ports_of s) (entry_of s k).first (entry_of s k).slots (body_at s k)

abbrev pub judged_of : ℕ → List ℕ → ℕ → Judged
judged_of m s = steps (judge_at m s) none_judged
