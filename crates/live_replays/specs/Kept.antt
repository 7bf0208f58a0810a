-- What is kept of a damaged trace replays as it did in the file: slot by slot, and as the tables that the calls write.
use Rattle.std.specs.Prelude.{◌≡◌, List, ℕ}
use Rattle.trace_parts.specs.Contents.{ports_of, entry_of}
use Rattle.traces.specs.Trace.{body_at}
use Rattle.replays.specs.Replay.{replayed}
use Rattle.replays.specs.Tables.{replay_number, replay_tables}

-- body j of t and body i of s
pub record SameReplay (m : ℕ) (s t : List ℕ) (j i : ℕ) : Type 0 where
  pub slot : (k : ℕ) → replayed m (ports_of t) (entry_of t j).slots (body_at t j) (entry_of t j).first k ≡ replayed m (ports_of s) (entry_of s i).slots (body_at s i) (entry_of s i).first k
  pub number : (tables : List ℕ) → replay_number m (ports_of t) (entry_of t j).slots (body_at t j) tables ≡ replay_number m (ports_of s) (entry_of s i).slots (body_at s i) tables
  pub tables : (tables : List ℕ)
      → replay_tables m (ports_of t) (entry_of t j).first (entry_of t j).slots (body_at t j) tables ≡ replay_tables m (ports_of s) (entry_of s i).first (entry_of s i).slots (body_at s i) tables
