-- What holds of every number below n.
use borrow.Author.Rules.{rules}
use mathlib.Core.Path.{◌≡◌, refl}
use mathlib.Core.Bool.{Bool, true, ◌&&◌}
use Prim.Native.Nat.{ℕ, zero, suc, ◌+◌, ◌≤◌, ◌<◌}
use native.Mathlib.Nat.{le_antisymm}
use native.Mathlib.Numerals.{add-one}
use native.Mathlib.Omega.{arith}
use Rattle.laws.specs.Steps.{steps, every}
use Rattle.laws.proofs.Loops.{same_steps}
use Rattle.laws.proofs.Steps.{upto}
use Rattle.laws.proofs.Tests.{both}

module _ (p : ℕ → Bool) where
  -- before the first turn, one turn more, and the last turn is done
  pub every_none : true ≡ every p 0
  unfolding every steps
  every_none = refl

  pub every_again : (k : ℕ) {a b : Bool} → a ≡ every p k → b ≡ p k → a && b ≡ every p (k + 1)
  unfolding every steps
  every_again k e q = rw (add-one k, ← e, ← q)

  pub every_done : (n k : ℕ) {a : Bool} → a ≡ every p k → k ≤ n → n ≤ k → a ≡ every p n
  every_done n k e h l = rw (le_antisymm h l) at e

  pub every_each : (n : ℕ) → every p n ≡ true → (k : ℕ) → k < n → p k ≡ true
  unfolding every steps
  every_each zero e k h = absurd (omega arith)
  every_each (suc n) e k h =
      let (before, now) = both (every p n) (p n) e in
      upto (λ j. p j ≡ true) n (every_each n before) now k h

  pub each_every : (n : ℕ) → ((k : ℕ) → k < n → p k ≡ true) → every p n ≡ true
  unfolding every steps
  each_every zero h = refl
  each_every (suc n) h = rw (each_every n (λ k l. h k (omega arith)), h n (omega arith))

pub every_same : (p q : ℕ → Bool) (n : ℕ) → ((k : ℕ) → k < n → p k ≡ q k) → every p n ≡ every q n
unfolding every
every_same p q n h = same_steps _ _ _ n (λ k b l. rw (h k l))

-- what `search` needs at a loop that gathers such a test
pub ruleset everyLoop = (rules, every_none, every_again, every_done)
