-- A cell is added to the queue of the pair (i, t): on shelves of at most m ports, with pools of at most c cells of w bytes.
use Rattle.std.specs.Prelude.{ℕ, not, ◌||◌, cond, List, [], ◌∷◌, ◌++◌, eqb, ltb, leb, length, get_or, drop}
use Rattle.queue_records.specs.Entries.{cell_of, entry_of}
use Rattle.queue_records.specs.Records.{ports_of, cells_of, count_of, held_of, free_of, words_of}
use Rattle.queue_records.specs.Order.{usable}
use Rattle.queue_records.specs.Queue.{stored}

-- the cell of the first free entry
abbrev pub next_cell : ℕ → List ℕ → ℕ
next_cell m words = cell_of m (get_or (free_of words) 0 0)

-- it becomes the last one held
unfoldable pub entered : ℕ → List ℕ → ℕ → ℕ → List ℕ
entered m words i t = words_of (ports_of words) (cells_of words) (held_of words ++ (entry_of m (next_cell m words) i t ∷ [])) (drop 1 (free_of words))

module _ (m c w : ℕ) (words : List ℕ) (i t : ℕ) (cell pool : List ℕ) where
  -- 8 for a cell of another length, then 1, 17 and 16
  unfoldable pub add_number : ℕ
  add_number =
      cond (not (eqb (length cell) w)) 8
      (cond (ltb (ports_of words) 1 || ltb m (ports_of words)) 1
      (cond (leb (ports_of words) i || leb (ports_of words) t) 17
      (cond (not (usable m c w words (length pool))) 17
      (cond (eqb (count_of words) (cells_of words)) 16 0))))

  unfoldable pub add_words : List ℕ
  add_words = cond (eqb add_number 0) (entered m words i t) words

  unfoldable pub add_pool : List ℕ
  add_pool = cond (eqb add_number 0) (stored w pool (next_cell m words) cell) pool
