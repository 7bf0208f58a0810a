-- New queues, on shelves of at most m ports and with pools of at most c cells of w bytes.
use Rattle.std.specs.Prelude.{ℕ, ◌/◌, ◌%◌, Bool, not, ◌||◌, cond, List, [], ◌∷◌, eqb, ltb, length}
use Rattle.laws.specs.Parts.{parts}
use Rattle.queue_records.specs.Entries.{entry_of}
use Rattle.queue_records.specs.Records.{records_len, words_of}

-- a pool of len bytes is other than 1 to c whole cells
unfoldable pub wrong_pool : ℕ → ℕ → ℕ → Bool
wrong_pool c w len = not (eqb (len % w) 0) || (ltb (len / w) 1 || ltb c (len / w))

-- entry k is of cell k
abbrev pub fresh_entries : ℕ → ℕ → List ℕ
fresh_entries m = parts (λ k. entry_of m k 0 0 ∷ [])

module _ (m c w : ℕ) (words : List ℕ) (n len : ℕ) where
  -- 8 for other than the head and an entry for each cell, then 1, then 17
  unfoldable pub new_number : ℕ
  new_number = cond (not (eqb (length words) (records_len (len / w)))) 8 (cond (ltb n 1 || ltb m n) 1 (cond (wrong_pool c w len) 17 0))

  unfoldable pub new_words : List ℕ
  new_words = cond (eqb new_number 0) (words_of n (len / w) [] (fresh_entries m (len / w))) words
