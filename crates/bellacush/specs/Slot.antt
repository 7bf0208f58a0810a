-- The C form of the slot call: the state is nine bytes, the mode a number, the sets two bytes each.
use Rattle.std.specs.Prelude.{ℕ, ◌+◌, ◌*◌, Bool, ◌&&◌, cond, List, eqb, length}
use Rattle.laws.specs.Bytes.{row}
use Rattle.ports.specs.Modes.{mode_of}
use Rattle.ports.specs.Answer.{Answer}
use Rattle.ports.specs.Answer.{Stepped}
use Rattle.table_bytes.specs.State.{state_len, state_of, state_bytes}
use Rattle.table_bytes.specs.Table.{table_len}
use Rattle.shelf.specs.Step.{stepped, output}

-- the number plus 256 times the rounds
abbrev pub word_of : Answer → ℕ
word_of a = a.number + 256 * a.rounds

-- the state's bytes and the table's after a slot: the new where it was served, and otherwise what they held
unfoldable pub state_after : Stepped → List ℕ → List ℕ
state_after r state = cond (eqb r.answer.number 0) (state_bytes r.state) state

unfoldable pub table_after : Stepped → List ℕ → List ℕ
table_after r table = cond (eqb r.answer.number 0) (row 2 r.answer.sets) table

module _ (m : ℕ) (state : List ℕ) (slot mode : ℕ) (block : List ℕ) where
  module _ (out table : List ℕ) where
    -- the state is nine bytes, and the table two for each of m sets
    unfoldable pub fits : Bool
    fits = eqb (length state) state_len && eqb (length table) (table_len m)

    unfoldable pub run : Stepped
    run = stepped m (state_of state) slot (mode_of m mode) block out

    -- 8 before every other number; what is lent then stays
    unfoldable pub slot_word : ℕ
    slot_word = cond fits (word_of run.answer) 8

    unfoldable pub slot_state : List ℕ
    slot_state = cond fits (state_after run state) state

    unfoldable pub slot_table : List ℕ
    slot_table = cond fits (table_after run table) table

  unfoldable pub slot_output : ℕ → List ℕ → List ℕ → List ℕ
  slot_output link out table = cond (fits out table) (output m (state_of state) slot (mode_of m mode) block link out) out
