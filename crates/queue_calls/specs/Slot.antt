-- The C form of a slot over the queues: on shelves of at most m ports, with pools of at most c cells of w bytes. The state is nine bytes, the mode a
-- number, the sets two bytes each.
use Rattle.std.specs.Prelude.{ℕ, Bool, ◌&&◌, cond, List, eqb, length}
use Rattle.ports.specs.Modes.{mode_of}
use Rattle.ports.specs.Answer.{Stepped}
use Rattle.table_bytes.specs.State.{state_len, state_of}
use Rattle.table_bytes.specs.Table.{table_len}
use Rattle.bellacush.specs.Slot.{word_of, state_after, table_after}
use Rattle.queues.specs.Serving.{answered, slot_words, slot_output}

-- the state is nine bytes, and the table two for each of m sets
unfoldable pub lent_fit : ℕ → List ℕ → List ℕ → Bool
lent_fit m state table = eqb (length state) state_len && eqb (length table) (table_len m)

module _ (m c w : ℕ) (state : List ℕ) (slot mode : ℕ) (words pool out table : List ℕ) where
  unfoldable pub run : Stepped
  run = answered m c w words (state_of state) slot (mode_of m mode) pool out

  -- 8 before every other number; what is lent then stays
  unfoldable pub call_word : ℕ
  call_word = cond (lent_fit m state table) (word_of run.answer) 8

  unfoldable pub call_state : List ℕ
  call_state = cond (lent_fit m state table) (state_after run state) state

  unfoldable pub call_table : List ℕ
  call_table = cond (lent_fit m state table) (table_after run table) table

  unfoldable pub call_records : List ℕ
  call_records = cond (lent_fit m state table) (slot_words m c w words (state_of state) slot (mode_of m mode) pool out) words

  unfoldable pub call_output : List ℕ
  call_output = cond (lent_fit m state table) (slot_output m c w words (state_of state) slot (mode_of m mode) pool out) out
