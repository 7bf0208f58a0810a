-- The replay of a whole body: the tables of its slots, one after the other in the bytes lent.
use Rattle.std.specs.Prelude.{ℕ, ◌*◌, List}
use Rattle.laws.specs.Parts.{parts}
use Rattle.frames.specs.Frame.{written}
use Rattle.lent.specs.Writer.{writer_number}
use Rattle.table_bytes.specs.Table.{table_len, table_bytes}
use Rattle.trace_parts.specs.Body.{body_sound}
use Rattle.replays.specs.Replay.{replayed}

-- so many tables
abbrev pub all_len : ℕ → ℕ → ℕ
all_len m slots = slots * table_len m

-- 14 for what is no body of so many slots for n ports, then 7
abbrev pub replay_number : ℕ → ℕ → ℕ → List ℕ → List ℕ → ℕ
replay_number m n slots body tables = writer_number (body_sound m n slots body) (all_len m slots) tables

module _ (m n first slots : ℕ) (body : List ℕ) where
  -- the table of slot k, and all of them
  abbrev pub table_at : ℕ → List ℕ
  table_at k = table_bytes m (replayed m n slots body first k).answer.sets

  abbrev pub all_tables : List ℕ
  all_tables = parts table_at slots

  abbrev pub replay_tables : List ℕ → List ℕ
  replay_tables tables = written (replay_number m n slots body tables) (all_len m slots) all_tables tables
