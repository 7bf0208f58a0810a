-- The queue of the pair (i, t) as a plain list: the bytes of its cells, in the order of their arrival. A cell has w bytes.
use Rattle.std.specs.Prelude.{ℕ, ◌+◌, ◌*◌, List, ◌++◌, map, take, drop}
use Rattle.laws.specs.Parts.{part}
use Rattle.queue_records.specs.Entries.{cell_of, of_pair, those}
use Rattle.queue_records.specs.Records.{held_of}

-- cell x of a pool; and bytes that have s in the place of cell x
abbrev pub cell_at : ℕ → List ℕ → ℕ → List ℕ
cell_at w pool x = part (x * w) w pool

unfoldable pub stored : ℕ → List ℕ → ℕ → List ℕ → List ℕ
stored w pool x s = take (x * w) pool ++ (s ++ drop (x * w + w) pool)

-- the entries of the pair, on shelves of at most m ports
abbrev pub waiting : ℕ → List ℕ → ℕ → ℕ → List ℕ
waiting m words i t = those (of_pair m i t) (held_of words)

unfoldable pub queue_of : ℕ → ℕ → List ℕ → List ℕ → ℕ → ℕ → List (List ℕ)
queue_of m w words pool i t = map (λ e. cell_at w pool (cell_of m e)) (waiting m words i t)
