-- The same calls in the C form: the scheduler's state is lent as bytes, the mode is a number, and a slot is lent a table too. On shelves of at most m
-- ports, with pools of at most c cells of w bytes.
use Rattle.std.specs.Prelude.{ℕ, ◌%◌, Bool, false, cond, List, [], ◌∷◌, eqb}
use Rattle.ports.specs.Modes.{mode_of}
use Rattle.table_bytes.specs.State.{state_of}
use Rattle.queue_entries.specs.Adding.{add_number, add_words, add_pool}
use Rattle.queue_calls.specs.Slot.{lent_fit, call_word, call_state, call_records}
use Rattle.queued.specs.Shelf.{Shelf, Call, Cell, Slot, number}

-- the records, the pool and the scheduler's state, as they are lent
pub record CShelf : Type 0 where
  pub words : List ℕ
  pub pool : List ℕ
  pub state : List ℕ

pub data CCall : Type 0 where
  CCell : (i t : ℕ) (bytes : List ℕ) → CCall
  CSlot : (slot mode : ℕ) (out table : List ℕ) → CCall

-- the shelf that they are
abbrev pub shelf_of : CShelf → Shelf
shelf_of s = record { words = s.words; pool = s.pool; state = state_of s.state }

module _ (m c w : ℕ) where
  -- the number that the call answers
  unfoldable pub c_number : CShelf → CCall → ℕ
  c_number s (CCell i t bytes) = add_number m c w s.words i t bytes s.pool
  c_number s (CSlot slot mode out table) = call_word m c w s.state slot mode s.words s.pool out table % 256

  -- it is a slot and served
  unfoldable pub c_served : CShelf → CCall → Bool
  c_served s (CCell i t bytes) = false
  c_served s (CSlot slot mode out table) = eqb (c_number s (CSlot slot mode out table)) 0

  -- what it leaves
  unfoldable pub c_next : CShelf → CCall → CShelf
  c_next s (CCell i t bytes) = record { words = add_words m c w s.words i t bytes s.pool; pool = add_pool m c w s.words i t bytes s.pool; state = s.state }
  c_next s (CSlot slot mode out table) =
      record { words = call_records m c w s.state slot mode s.words s.pool out table; pool = s.pool; state = call_state m c w s.state slot mode s.words s.pool out table }

-- the call by value that it is, and none if the state or the table is of another length
unfoldable pub by_value : ℕ → CShelf → CCall → List Call
by_value m s (CCell i t bytes) = Cell i t bytes ∷ []
by_value m s (CSlot slot mode out table) = cond (lent_fit m s.state table) (Slot slot (mode_of m mode) out ∷ []) []

-- the number of that call, and 8 where there is none
unfoldable pub number_by_value : ℕ → ℕ → ℕ → CShelf → List Call → ℕ
number_by_value m c w s [] = 8
number_by_value m c w s (x ∷ calls) = number m c w (shelf_of s) x
