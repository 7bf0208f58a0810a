-- What a new trace t keeps of a file s: exactly its sound bodies, each unchanged and with its first slot and slot count, in order.
use Rattle.std.specs.Prelude.{ℕ, ◌<◌, ◌≡◌, true, List}
use Rattle.trace_parts.specs.Contents.{ports_of, count_of, entry_of}
use Rattle.traces.specs.Trace.{body_at, sound_at, trace_sound}

-- body j of t is body i of s, and was sound
pub record SameBody (m : ℕ) (s t : List ℕ) (j i : ℕ) : Type 0 where
  pub there : i < count_of s
  pub sound : sound_at m s i ≡ true
  pub first : (entry_of t j).first ≡ (entry_of s i).first
  pub slots : (entry_of t j).slots ≡ (entry_of s i).slots
  pub bytes : body_at t j ≡ body_at s i

-- origin j is the body of s that body j of t was
pub record Keeps (m : ℕ) (s t : List ℕ) (origin : ℕ → ℕ) : Type 0 where
  pub trace : trace_sound m t ≡ true
  pub ports : ports_of t ≡ ports_of s
  pub each : (j : ℕ) → j < count_of t → SameBody m s t j (origin j)
  pub in_order : (i j : ℕ) → i < j → j < count_of t → origin i < origin j
  pub none_lost : (i : ℕ) → i < count_of s → sound_at m s i ≡ true → (j : ℕ) × (j < count_of t) × (origin j ≡ i)
