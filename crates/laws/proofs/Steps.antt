-- What the steps of a "for k = 0 to n - 1" keep.
use mathlib.Core.Path.{◌≡◌, sym}
use mathlib.Core.Logic.{⊎_elim}
use mathlib.Core.Bool.{Bool, true, or-true, true≢false}
use Prim.Native.Nat.{ℕ, zero, suc, ◌≤◌, ◌<◌}
use native.Mathlib.Decide.{ℕ_discrete}
use native.Mathlib.Omega.{arith}
use Rattle.laws.specs.Steps.{steps, some}
use Rattle.laws.proofs.Tests.{either}

-- what holds below k, and of k
pub upto : (Q : ℕ → Type 0) (k : ℕ) → ((j : ℕ) → j < k → Q j) → Q k → (j : ℕ) → j < suc k → Q j
upto Q k before now j h = go (ℕ_discrete j k)
  where
    go : Dec (j ≡ k) → Q j
    go (yes e) = rw e now
    go (no e) = before j (omega arith)

module _ {A : Type 0} (f : ℕ → A → A) (x : A) where
  -- P k holds after k steps
  pub kept : (P : ℕ → A → Type 0) (n : ℕ) → ((k : ℕ) (u : A) → k < n → P k u → P (suc k) (f k u)) → P 0 x → P n (steps f x n)
  unfolding steps
  kept P n step p = go n (omega arith)
    where
      go : (k : ℕ) → k ≤ n → P k (steps f x k)
      go zero h = p
      go (suc k) h = step k (steps f x k) h (go k (omega arith))

  -- what the first step brings about, and none after it undoes
  pub kept_from_first : (P : A → Type 0) (n : ℕ) → ((k : ℕ) (u : A) → P u → P (f k u)) → P (f 0 x) → 0 < n → P (steps f x n)
  unfolding steps
  kept_from_first P zero step p h = absurd (omega arith)
  kept_from_first P (suc n) step p h = go n
    where
      go : (k : ℕ) → P (steps f x (suc k))
      go zero = p
      go (suc k) = step (suc k) (steps f x (suc k)) (go k)

-- some k below n has p: one can be named, and any is enough
module _ (p : ℕ → Bool) where
  pub some_true : (n : ℕ) → some p n ≡ true → (k : ℕ) × (k < n) × (p k ≡ true)
  unfolding steps
  some_true zero e = absurd (true≢false (sym e))
  some_true (suc n) e = ⊎_elim (λ here. (n, omega arith, here)) (λ before. let (k, h, q) = some_true n before in (k, omega arith, q)) (either (p n) (some p n) e)

  pub true_some : (n k : ℕ) → k < n → p k ≡ true → some p n ≡ true
  unfolding steps
  true_some zero k h q = absurd (omega arith)
  true_some (suc n) k h q = go (ℕ_discrete k n) (λ l. true_some n k l q)
    where
      go : Dec (k ≡ n) → (k < n → some p n ≡ true) → some p (suc n) ≡ true
      go (yes e) before = rw (← e, q)
      go (no e) before = rw (before (omega arith)) (or-true (p n))
