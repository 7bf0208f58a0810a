-- Calls on the queues of a shelf: on shelves of at most m ports, with pools of at most c cells of w bytes.
use Rattle.std.specs.Prelude.{ℕ, Bool, false, ◌&&◌, cond, List, [], ◌∷◌, eqb, take}
use Rattle.laws.specs.Sets.{asks}
use Rattle.ports.specs.declared.state.State.{State}
use Rattle.ports.specs.declared.state.Mode.{Mode}
use Rattle.queue_records.specs.Queue.{queue_of}
use Rattle.queue_entries.specs.Adding.{add_number, add_words, add_pool}
use Rattle.queues.specs.Serving.{answered, slot_words}

-- the records, the pool and the scheduler's state
pub record Shelf : Type 0 where
  pub words : List ℕ
  pub pool : List ℕ
  pub state : State

-- a cell is added to (i, t); a slot, with the bytes of the output that is lent
pub data Call : Type 0 where
  Cell : (i t : ℕ) (bytes : List ℕ) → Call
  Slot : (slot : ℕ) (mode : Mode) (out : List ℕ) → Call

module _ (m c w : ℕ) where
  -- the number that the call answers
  unfoldable pub number : Shelf → Call → ℕ
  number s (Cell i t bytes) = add_number m c w s.words i t bytes s.pool
  number s (Slot slot mode out) = (answered m c w s.words s.state slot mode s.pool out).answer.number

  -- the shelf that it leaves
  unfoldable pub next : Shelf → Call → Shelf
  next s (Cell i t bytes) = record { words = add_words m c w s.words i t bytes s.pool; pool = add_pool m c w s.words i t bytes s.pool; state = s.state }
  next s (Slot slot mode out) =
      record { words = slot_words m c w s.words s.state slot mode s.pool out; pool = s.pool; state = (answered m c w s.words s.state slot mode s.pool out).state }

  -- it is a slot and served
  unfoldable pub served : Shelf → Call → Bool
  served s (Cell i t bytes) = false
  served s (Slot slot mode out) = eqb (number s (Slot slot mode out)) 0

  -- the queue of a pair
  abbrev pub queue : ℕ → ℕ → Shelf → List (List ℕ)
  queue i t s = queue_of m w s.words s.pool i t

  module _ (i t : ℕ) where
    -- it is a slot that is served and grants the pair
    unfoldable pub grants : Shelf → Call → Bool
    grants s (Cell j u bytes) = false
    grants s (Slot slot mode out) = served s (Slot slot mode out) && asks (answered m c w s.words s.state slot mode s.pool out).answer.sets i t

    -- what the call brings to the pair's queue: the cell, if it is the pair's and is taken
    unfoldable pub comes : Shelf → Call → List (List ℕ)
    comes s (Cell j u bytes) = cond (eqb (number s (Cell j u bytes)) 0 && (eqb j i && eqb u t)) (bytes ∷ []) []
    comes s (Slot slot mode out) = []

    -- and what it takes from it: the head, if it grants the pair
    unfoldable pub goes : Shelf → Call → List (List ℕ)
    goes s x = cond (grants s x) (take 1 (queue i t s)) []
