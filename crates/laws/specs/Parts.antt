-- Parts of a list, and parts that are written one after the other.
use Rattle.std.specs.Prelude.{ℕ, List, [], ◌++◌, take, drop}
use Rattle.laws.specs.Steps.{steps}

-- the len elements from place `at` on
abbrev pub part : ℕ → ℕ → List ℕ → List ℕ
part at len s = take len (drop at s)

-- the parts f 0, f 1, up to f (n - 1)
abbrev pub parts : (ℕ → List ℕ) → ℕ → List ℕ
parts f = steps (λ i s. s ++ f i) []
