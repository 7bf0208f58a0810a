-- Marks, a byte each: what a pass over the entries has met.
use Rattle.std.specs.Prelude.{ℕ, Bool, List, eqb, length, get_or, set}
use Rattle.laws.specs.Steps.{steps}

-- the marks with one at f of each entry
abbrev pub marked : (ℕ → ℕ) → List ℕ → List ℕ → List ℕ
marked f entries marks = steps (λ k s. set s (f (get_or entries k 0)) 1) marks (length entries)

abbrev pub met : List ℕ → ℕ → Bool
met marks x = eqb (get_or marks x 0) 1
