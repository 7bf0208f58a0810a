-- Tables of counts, a count for each pair of m initiators and m targets.
use Rattle.std.specs.Prelude.{ℕ, ◌+◌, ◌*◌, ◌/◌, ◌%◌, ◌<◌, Bool, cond, List, ltb, get_or}
use Rattle.laws.specs.Steps.{some}
use Rattle.laws.specs.Sets.{asks, tabled}

-- how many there are, and which of them is that of (i, t)
abbrev pub pairs : ℕ → ℕ
pairs m = m * m

abbrev pub pair : ℕ → ℕ → ℕ → ℕ
pair m i t = i * m + t

-- one more for each pair of a table of sets
unfoldable pub raised : ℕ → List ℕ → List ℕ → List ℕ
raised m rows counts = tabled (pairs m) (λ k. get_or counts k 0 + cond (asks rows (k / m) (k % m)) 1 0) (pairs m)

-- one of the first n counts is above x
abbrev pub above : List ℕ → ℕ → ℕ → Bool
above counts x = some (λ k. ltb x (get_or counts k 0))

-- the most slots that are counted
abbrev pub most_slots : ℕ
most_slots = 4294967295

-- each count has room for one more
abbrev pub Room : ℕ → List ℕ → Type 0
Room m counts = (k : ℕ) → k < pairs m → get_or counts k 0 < most_slots
