-- A list of the pairs below n that pass a test, each once.
use mathlib.Core.Path.{◌≡◌, refl, sym, subst, ◌∙◌}
use mathlib.Core.Logic.{⊎_elim, ◌↔◌}
use mathlib.Core.Bool.{Bool, true, cond, true≢false}
use mathlib.Core.List.Memᴰ
use mathlib.Core.List.{List, [], ◌∷◌, Memᴰ}
use Prim.Native.Nat.{ℕ, suc, ◌+◌, ◌*◌, ◌/◌, ◌%◌, ◌≤◌, ◌<◌}
use native.Mathlib.Nat.{mod-lt, div-add-mod', mul-le-mul_right, suc-mul}
use native.Mathlib.Decide.{dec_lt}
use native.Mathlib.Omega.{arith}
use Rattle.laws.specs.Steps.{steps}
use Rattle.laws.proofs.Tests.{arms}
use Rattle.laws.proofs.Steps.{upto, kept}
use Rattle.demands.proofs.Turns.{the_place, the_lap}
use Rattle.best.specs.Pairs.{Pair, NoneTwice, Exactly}

-- the k-th pair, row by row
abbrev pair_at : ℕ → ℕ → Pair
pair_at n k = (k / n, k % n)

abbrev pub listed : (ℕ → ℕ → Bool) → ℕ → List Pair
listed p n = steps (λ k rest. cond (p (k / n) (k % n)) (pair_at n k ∷ rest) rest) [] (n * n)

module _ (p : ℕ → ℕ → Bool) (n : ℕ) where
  -- one of the first k pairs, and passes the test
  abbrev Found : ℕ → ℕ → ℕ → Type 0
  Found k i t = (i * n + t < k) × (t < n) × (p i t ≡ true)

  -- when the first k have been tested
  record Tested (k : ℕ) (rest : List Pair) : Type 0 where
    only : (i t : ℕ) → Memᴰ (i, t) rest → Found k i t
    all : (j : ℕ) → j < k → p (j / n) (j % n) ≡ true → Memᴰ (pair_at n j) rest
    once : NoneTwice rest

  later : (k i t : ℕ) → Found k i t → Found (suc k) i t
  later k i t (a, b, c) = (omega arith, b, c)

  test : (k : ℕ) (rest : List Pair) → 0 < n → Tested k rest → Tested (suc k) (cond (p (k / n) (k % n)) (pair_at n k ∷ rest) rest)
  unfolding NoneTwice
  test k rest some h = arms (Tested (suc k)) (p (k / n) (k % n)) _ _
      (λ e. record {
        only = λ i t m. ⊎_elim
            (λ q. subst (λ (x : Pair). Found (suc k) x.0 x.1) (sym q) (omega (arith, div-add-mod' k n), mod-lt k some, e))
            (λ old. later k i t (h.only i t old)) (Memᴰ.cases_cons m);
        all = upto (λ j. p (j / n) (j % n) ≡ true → Memᴰ (pair_at n j) (pair_at n k ∷ rest)) k (λ j l q. Memᴰ.tail (h.all j l q)) (λ q. Memᴰ.head refl);
        once = (λ m. omega (arith, (h.only _ _ m).0, div-add-mod' k n), h.once);
      })
      (λ e. record {
        only = λ i t m. later k i t (h.only i t m);
        all = upto (λ j. p (j / n) (j % n) ≡ true → Memᴰ (pair_at n j) rest) k h.all (λ q. absurd (true≢false (sym q ∙ e)));
        once = h.once;
      })

  pub listed_exactly : (P : ℕ → ℕ → Type 0) → 0 < n → ((i t : ℕ) → P i t ↔ ((i < n) × (t < n) × (p i t ≡ true))) → Exactly P (listed p n)
  unfolding NoneTwice
  listed_exactly P some same = record {
    only = λ i t m. let (a, b, c) = tested.only i t m in (same i t).1 (row i t a (dec_lt i n), b, c);
    all = λ i t h.
        let (i<, t<, e) = (same i t).0 h in
        let at_row : (i * n + t) / n ≡ i = the_lap n i t t< in
        let at-column : (i * n + t) % n ≡ t = the_place n i t t< in
        let below : i * n + t < n * n = omega (arith, mul-le-mul_right n i<, suc-mul i n) in
        rw (at_row, at-column) at (tested.all (i * n + t) below (rw (at_row, at-column) e));
    once = tested.once;
  }
    where
      tested : Tested (n * n) (listed p n)
      tested = kept _ [] Tested (n * n) (λ k rest l. test k rest some) (record { only = λ i t m. absurd (Memᴰ.not-nil m); all = λ j l. absurd (omega arith); once = tt })

      row : (i t : ℕ) → i * n + t < n * n → Dec (i < n) → i < n
      row i t a (yes l) = l
      row i t a (no l) = let far : n ≤ i = omega arith in absurd (omega (arith, mul-le-mul_right n far))
