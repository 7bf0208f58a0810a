-- Tables, and a loop that makes one row by row.
use borrow.Author.Rules.{rules}
use mathlib.Core.Path.{◌≡◌, refl, sym, ◌∙◌}
use mathlib.Core.Logic.{⊎_elim}
use mathlib.Core.List.{List, [], ◌∷◌, map}
use Prim.Native.Nat.{ℕ, zero, suc, ◌+◌, ◌<◌, ◌≤◌}
use native.Mathlib.Nat.{le_of_suc-le-suc, eq-or-lt_of_le, not-suc-le-zero}
use native.Mathlib.Numerals.{add-one}
use native.Mathlib.Omega.{arith}
use lib.ListN.{length, get_or, set, replicate, length-set, length-replicate, length-map}
use lib.Seq.{get_or-set_same, get_or-set_other, ext_get_or}
use Rattle.laws.specs.Steps.{steps}
use Rattle.laws.specs.Sets.{tabled}
use Rattle.laws.proofs.Loops.{done}

module _ (m : ℕ) (f : ℕ → ℕ) where
  pub length_tabled : (n : ℕ) → length (tabled m f n) ≡ m
  unfolding steps
  length_tabled zero = length-replicate m 0
  length_tabled (suc n) = length-set (tabled m f n) n (f n) ∙ length_tabled n

  -- row k is f k
  pub row-tabled : (n k : ℕ) → k < n → k < m → get_or (tabled m f n) k 0 ≡ f k
  unfolding steps
  row-tabled zero k h l = absurd (not-suc-le-zero h)
  row-tabled (suc n) k h l = ⊎_elim
      (λ e. rw e (get_or-set_same (tabled m f n) n (f n) 0 (omega (arith, length_tabled n))))
      (λ g. get_or-set_other (tabled m f n) n k (f n) 0 (λ e. omega arith) ∙ row-tabled n k g l)
      (eq-or-lt_of_le (le_of_suc-le-suc h))

  pub no_row : {u : List ℕ} → u ≡ replicate m 0 → u ≡ tabled m f 0
  unfolding steps
  no_row e = e

  pub next_row : (k : ℕ) {u : List ℕ} {v : ℕ} → u ≡ tabled m f k → v ≡ f k → set u k v ≡ tabled m f (k + 1)
  unfolding steps
  next_row k e p = rw (p, e, add-one)

  pub all_rows : (n k l : ℕ) {u : List ℕ} → l ≡ m → u ≡ tabled m f k → k ≤ n → n ≤ k → u ≡ tabled l f n
  all_rows n k l p e h g = rw p (done _ _ n k e h g)

pub row_map : (f : ℕ → ℕ) (rows : List ℕ) (k : ℕ) → k < length rows → get_or (map f rows) k 0 ≡ f (get_or rows k 0)
row_map f [] k h = absurd (not-suc-le-zero h)
row_map f (row ∷ rows) zero h = refl
row_map f (row ∷ rows) (suc k) h = row_map f rows k (le_of_suc-le-suc h)

-- f of every row
pub each_row : (f : ℕ → ℕ) (rows : List ℕ) (m k : ℕ) {u : List ℕ} → length rows ≡ m → u ≡ tabled m (λ i. f (get_or rows i 0)) k → k ≤ m → m ≤ k
    → u ≡ map f rows
each_row f rows m k p e h g = done _ _ m k e h g ∙ ext_get_or 0 _ _ (length_tabled m _ m ∙ sym p ∙ sym (length-map rows f)) same
  where
    same : (i : ℕ) → i < length (tabled m (λ i. f (get_or rows i 0)) m) → get_or (tabled m (λ i. f (get_or rows i 0)) m) i 0 ≡ get_or (map f rows) i 0
    same i l = row-tabled m _ m i (rw length_tabled at l) (rw length_tabled at l) ∙ sym (row_map f rows i (omega (arith, length_tabled m (λ i. f (get_or rows i 0)) m)))

-- the empty table
pub no_bits : (m k : ℕ) → ◌≡◌ {A = ℕ} (get_or (replicate m 0) k 0) 0
no_bits zero k = refl
no_bits (suc m) zero = refl
no_bits (suc m) (suc k) = no_bits m k

-- what `search` needs at a loop whose invariant is such an equation
pub ruleset rows = (rules, no_row, next_row, all_rows, each_row)
