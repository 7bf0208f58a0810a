-- The laws of a loop, over any step.
use borrow.Author.Rules.{rules}
use mathlib.Core.Path.{◌≡◌, refl, ap}
use Prim.Native.Nat.{ℕ, zero, suc, ◌+◌, ◌≤◌, ◌<◌}
use native.Mathlib.Nat.{le_antisymm, add-zero, add-suc}
use native.Mathlib.Numerals.{add-one}
use native.Mathlib.Omega.{arith}
use Rattle.laws.specs.Steps.{steps}

module _ {A : Type 0} (f : ℕ → A → A) (x : A) where
  -- before the first turn
  pub none : x ≡ steps f x 0
  unfolding steps
  none = refl

  -- one turn more
  pub again : (k : ℕ) {u v : A} → u ≡ steps f x k → v ≡ f k u → v ≡ steps f x (k + 1)
  unfolding steps
  again k e p = rw (p, e, add-one)

  -- the last turn is done
  pub done : (n k : ℕ) {u : A} → u ≡ steps f x k → k ≤ n → n ≤ k → u ≡ steps f x n
  done n k e h l = rw (le_antisymm h l) at e

-- steps that agree
pub same_steps : {A : Type 0} (f g : ℕ → A → A) (x : A) (n : ℕ) → ((k : ℕ) (u : A) → k < n → f k u ≡ g k u) → steps f x n ≡ steps g x n
unfolding steps
same_steps f g x zero h = refl
same_steps f g x (suc n) h = rw (same_steps f g x n (λ k u l. h k u (omega arith)), h n _ (omega arith))

-- steps that change nothing from the m-th on
pub stays : {A : Type 0} (f : ℕ → A → A) (x : A) (m d : ℕ) → ((k : ℕ) → m ≤ k → f k (steps f x m) ≡ steps f x m) → steps f x (m + d) ≡ steps f x m
unfolding steps
stays f x m zero h = ap (steps f x) (add-zero m)
stays f x m (suc d) h = rw (add-suc, stays f x m d h) (h (m + d) (omega arith))

-- what `search` needs at a loop whose invariant is such an equation
pub ruleset loop = (rules, none, again, done)
