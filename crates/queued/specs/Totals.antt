-- How many cells all pairs have together.
use Rattle.std.specs.Prelude.{ℕ, ◌+◌, List, length}
use Rattle.laws.specs.Steps.{steps}

-- f 0 and f 1 up to f (n - 1) together
abbrev pub sum : (ℕ → ℕ) → ℕ → ℕ
sum f = steps (λ k x. x + f k) 0

-- how many the lists of all pairs below n have
abbrev pub all_cells : ℕ → (ℕ → ℕ → List (List ℕ)) → ℕ
all_cells n lists = sum (λ i. sum (λ t. length (lists i t)) n) n
