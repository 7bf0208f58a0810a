-- The records of the queues, as lent words: the ports, the cells of the pool, how many of them are held, and then an entry for each cell:
-- those held, in the order of their arrival, and behind them the free ones.
use Rattle.std.specs.Prelude.{ℕ, ◌+◌, List, ◌∷◌, ◌++◌, length, get_or, take, drop}

abbrev pub head_len : ℕ
head_len = 3

abbrev pub records_len : ℕ → ℕ
records_len cells = head_len + cells

abbrev pub ports_of : List ℕ → ℕ
ports_of words = get_or words 0 0

abbrev pub cells_of : List ℕ → ℕ
cells_of words = get_or words 1 0

abbrev pub count_of : List ℕ → ℕ
count_of words = get_or words 2 0

abbrev pub entries_of : List ℕ → List ℕ
entries_of words = drop head_len words

abbrev pub held_of : List ℕ → List ℕ
held_of words = take (count_of words) (entries_of words)

abbrev pub free_of : List ℕ → List ℕ
free_of words = drop (count_of words) (entries_of words)

-- the words of such records
abbrev pub words_of : ℕ → ℕ → List ℕ → List ℕ → List ℕ
words_of ports cells held free = ports ∷ cells ∷ length held ∷ (held ++ free)
