-- An entry of the records: the number of a cell, and the pair in whose queue it stands, on shelves of at most m ports.
use Rattle.std.specs.Prelude.{ℕ, ◌+◌, ◌*◌, ◌/◌, ◌%◌, Bool, ◌&&◌, cond, List, [], ◌∷◌, eqb}

abbrev pub cell_of : ℕ → ℕ → ℕ
cell_of m e = e / (m * m)

abbrev pub initiator_of : ℕ → ℕ → ℕ
initiator_of m e = e / m % m

abbrev pub target_of : ℕ → ℕ → ℕ
target_of m e = e % m

abbrev pub entry_of : ℕ → ℕ → ℕ → ℕ → ℕ
entry_of m x i t = (x * m + i) * m + t

-- the entry is of cell x; and of the pair (i, t)
abbrev pub of_cell : ℕ → ℕ → ℕ → Bool
of_cell m x e = eqb (cell_of m e) x

abbrev pub of_pair : ℕ → ℕ → ℕ → ℕ → Bool
of_pair m i t e = eqb (initiator_of m e) i && eqb (target_of m e) t

-- those of a list that have p, in its order
unfoldable pub those : (ℕ → Bool) → List ℕ → List ℕ
those p [] = []
those p (e ∷ s) = cond (p e) (e ∷ those p s) (those p s)
