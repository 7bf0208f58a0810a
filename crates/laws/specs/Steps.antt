-- "For k = 0 to n - 1" of document 01: what x is after step 0, step 1, up to step n - 1.
use Rattle.std.specs.Prelude.{ℕ, zero, suc, Bool, true, false, ◌&&◌, ◌||◌}

unfoldable pub steps : {A : Type 0} → (ℕ → A → A) → A → ℕ → A
steps f x zero = x
steps f x (suc k) = f k (steps f x k)

-- some k below n has p
abbrev pub some : (ℕ → Bool) → ℕ → Bool
some p = steps (λ k found. p k || found) false

-- every k below n has p
unfoldable pub every : (ℕ → Bool) → ℕ → Bool
every p = steps (λ k all. all && p k) true
