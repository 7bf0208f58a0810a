-- What is promised of the trace t of a capture that is imported.
use Rattle.std.specs.Prelude.{◌≡◌, ◌⊎◌, ◌≢◌, true, List, ℕ, suc, ◌+◌, ◌%◌, ◌^◌, ◌≤◌, ◌<◌, length, replicate}
use Rattle.frames.specs.Part.{frame_len}
use Rattle.trace_parts.specs.Layout.{most_slots}
use Rattle.trace_parts.specs.Contents.{ports_of, count_of, entry_of}
use Rattle.trace_parts.specs.Body.{fields_of}
use Rattle.traces.specs.Trace.{body_at, trace_sound}
use Rattle.captures.specs.Capture.{record_at, records_of, frame_of}
use Rattle.replays.specs.Replay.{state_before, replayed}
use Rattle.replays.specs.Tables.{all_len, replay_number}
use Rattle.imported.specs.Records.{slot_at, turn, slots_of, First, Absent}
use Rattle.imported.specs.Trace.{slots_before, start_state, fields_after, frame_at}

-- it is a trace, on shelves of at most m ports, and replays: every slot of every body is served, in the order of their numbers, and the call that
-- replays a body answers 0 where there is room for its tables
pub record Replays (m : ℕ) (t : List ℕ) : Type 0 where
  pub is_trace : trace_sound m t ≡ true
  pub served : (b k : ℕ) → b < count_of t → k < (entry_of t b).slots → (replayed m (ports_of t) (entry_of t b).slots (body_at t b) (entry_of t b).first k).answer.number ≡ 0
  pub numbers : (b k : ℕ) → b < count_of t → k < (entry_of t b).slots
      → (state_before m (ports_of t) (entry_of t b).slots (body_at t b) (entry_of t b).first k).due ≡ ((entry_of t b).first + k) % 2 ^ 32
  pub tables : (b : ℕ) (tables : List ℕ) → b < count_of t → all_len m (entry_of t b).slots ≤ length tables
      → replay_number m (ports_of t) (entry_of t b).slots (body_at t b) tables ≡ 0

-- its bodies: each has the mode given, and the first offsets (i, j) moved on by the slots before it, as if no slot had been served in a gap; at most 360
-- slots; and the next begins only after 360 slots or at a gap, where 0 is the slot after 4294967295
pub record InBodies (n mode i j : ℕ) (t : List ℕ) : Type 0 where
  pub ports : ports_of t ≡ n
  pub fields : (b : ℕ) → b < count_of t → fields_of (body_at t b) ≡ fields_after (slots_before t b) mode (start_state n i j)
  pub some : (b : ℕ) → b < count_of t → 1 ≤ (entry_of t b).slots
  pub most : (b : ℕ) → b < count_of t → (entry_of t b).slots ≤ most_slots n
  pub next : (b : ℕ) → suc b < count_of t
      → ((entry_of t b).slots ≡ most_slots n) ⊎ ((entry_of t (suc b)).first ≢ ((entry_of t b).first + (entry_of t b).slots) % 2 ^ 32)

-- its slots are the captured slots, each once and in their order: slot k of body b is the captured slot that as many stand before. It has the number of
-- its records, of which there is one, and the block of each host holds the first frame captured and nothing else: zeros if there is none
pub record Captured (n : ℕ) (s t : List ℕ) : Type 0 where
  pub all : slots_before t (count_of t) ≡ slots_of n s (records_of n s)
  pub some : (b k : ℕ) → b < count_of t → k < (entry_of t b).slots → (i : ℕ) × (i < records_of n s) × (turn n s i ≡ slots_before t b + k)
  pub number : (b k i : ℕ) → b < count_of t → k < (entry_of t b).slots → i < records_of n s → turn n s i ≡ slots_before t b + k
      → slot_at n s i ≡ ((entry_of t b).first + k) % 2 ^ 32
  pub first : (b k h i : ℕ) → b < count_of t → k < (entry_of t b).slots → h < n → First n s (slots_before t b + k) h i
      → frame_at t b k h ≡ frame_of n (record_at n s i)
  pub absent : (b k h : ℕ) → b < count_of t → k < (entry_of t b).slots → h < n → Absent n s (slots_before t b + k) h
      → frame_at t b k h ≡ replicate (frame_len n) 0
