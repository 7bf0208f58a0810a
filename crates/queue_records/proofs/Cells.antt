-- As many entries as cells: if every cell has one, none has two.
use mathlib.Core.Path.{◌≡◌, refl, sym, ap, ◌∙◌}
use mathlib.Core.Bool.{Bool, true, false, not, ◌&&◌, cond, and-true, and-false}
use mathlib.Core.List.{List, [], ◌∷◌}
use Prim.Native.Nat.{ℕ, zero, suc, ◌+◌, ◌≤◌, ◌<◌}
use native.Mathlib.Decide.{ℕ_discrete}
use native.Mathlib.Omega.{arith}
use lib.Dec.{eqb, ltb}
use lib.ListN.{length, get_or, take, replicate}
use lib.Seq.{take-suc, take-length}
use borrow.Author.Tests.{eq-eqb, ne_eqb, eqb-true, ltb-true, lt-ltb}
use Rattle.laws.specs.Steps.{steps, every}
use Rattle.laws.proofs.Every.{every_each, each_every}
use Rattle.laws.proofs.Tests.{both, same}
use Rattle.queue_records.specs.Entries.{cell_of, of_cell, those}
use Rattle.queue_records.specs.Order.{placed, once, entries_in_order}
use Rattle.queue_records.specs.Marks.{marked, met}
use Rattle.queue_records.proofs.Lists.{count_append, both_counts, those-those}
use Rattle.queue_records.proofs.Meeting.{met_some}

module _ (f : ℕ → ℕ) where
  abbrev count : ℕ → List ℕ → ℕ
  count x s = length (those (λ e. eqb (f e) x) s)

  -- those of another cell than n
  abbrev others : ℕ → List ℕ → List ℕ
  others n s = those (λ e. not (eqb (f e) n)) s

  same_count : (n x : ℕ) (s : List ℕ) → x < n → count x (others n s) ≡ count x s
  same_count n x s h = ap length (those-those (λ e. eqb (f e) x) (λ e. not (eqb (f e) n)) (λ e i. let is = eqb-true (f e) x i in rw (is, ne_eqb x n (λ z. omega arith))) s)

  enough : (n : ℕ) (s : List ℕ) → ((x : ℕ) → x < n → 0 < count x s) → n ≤ length s
  enough zero s each = omega arith
  enough (suc n) s each =
      omega (arith, both_counts (λ e. eqb (f e) n) s, each n (omega arith), enough n (others n s) (λ x h. rw (same_count n x s h) (each x (omega arith))))

  one_each : (n : ℕ) (s : List ℕ) → length s ≤ n → ((x : ℕ) → x < n → 0 < count x s) → (x : ℕ) → x < n → count x s ≡ 1
  one_each zero s few each x h = absurd (omega arith)
  one_each (suc n) s few each x h = go (ℕ_discrete x n) (one_each n (others n s) (omega (arith, both_counts (λ e. eqb (f e) n) s, each n (omega arith))))
    where
      rest : (x : ℕ) → x < n → 0 < count x (others n s)
      rest x h = rw (same_count n x s h) (each x (omega arith))

      go : Dec (x ≡ n) → (((x : ℕ) → x < n → 0 < count x (others n s)) → (x : ℕ) → x < n → count x (others n s) ≡ 1) → count x s ≡ 1
      go (yes e) before = rw e (omega (arith, both_counts (λ e. eqb (f e) n) s, each n (omega arith), enough n (others n s) rest))
      go (no e) before = sym (same_count n x s (omega arith)) ∙ before rest x (omega arith)

-- so it is enough that every cell is met
all_once : (m c : ℕ) (entries : List ℕ) → length entries ≤ c
    → every (met (marked (cell_of m) entries (replicate c 0))) (length entries) ≡ every (once m entries) (length entries)
all_once m c entries few = same _ _
    (λ e. each_every (once m entries) n (λ x h. eq-eqb (length (those (of_cell m x) entries)) 1 (one_each (cell_of m) n entries (omega arith) (λ y l. ltb-true 0 (length (those (of_cell m y) entries)) (sym (seen y l) ∙ every_each (met marks) n e y l)) x h)))
    (λ e. each_every (met marks) n (λ x h. seen x h ∙ lt-ltb 0 (length (those (of_cell m x) entries)) (omega (arith, eqb-true (length (those (of_cell m x) entries)) 1 (every_each (once m entries) n e x h)))))
  where
    n : ℕ
    n = length entries

    marks : List ℕ
    marks = marked (cell_of m) entries (replicate c 0)

    seen : (x : ℕ) → x < n → met marks x ≡ ltb 0 (length (those (of_cell m x) entries))
    seen x h = met_some (cell_of m) entries c x (omega arith)

-- none is out of place where each is in its place
all_placed : (p : ℕ → Bool) (s : List ℕ) (k : ℕ) → k ≤ length s → every (λ j. p (get_or s j 0)) k ≡ eqb (length (those (λ e. not (p e)) (take k s))) 0
unfolding every steps those
all_placed p s zero h = refl
all_placed p s (suc k) h = rw (take-suc s k 0 h, count_append (λ e. not (p e)), all_placed p s k (omega arith)) (go (p (get_or s k 0)) (length (those (λ e. not (p e)) (take k s))))
  where
    go : (b : Bool) (n : ℕ) → (eqb n 0 && b) ≡ eqb (n + length (cond (not b) (get_or s k 0 ∷ []) [])) 0
    go true n = let e : n + 0 ≡ n = omega arith in rw e (and-true (eqb n 0))
    go false n = and-false (eqb n 0) ∙ sym (ne_eqb (n + 1) 0 (λ z. omega arith))

-- the test, as it is made
module _ (m ports cells : ℕ) (entries : List ℕ) (long : length entries ≡ cells) {a : Bool}
    (tested : a ≡ every (λ k. placed m ports cells (get_or entries k 0)) (length entries)) where
  pub in_pool : a ≡ true → (k : ℕ) → k < length entries → cell_of m (get_or entries k 0) < cells
  in_pool e k h = ltb-true (cell_of m (get_or entries k 0)) cells
      (both _ _ (every_each (λ k. placed m ports cells (get_or entries k 0)) (length entries) (sym tested ∙ e) k h)).0

  counted : a ≡ eqb (length (those (λ e. not (placed m ports (length entries) e)) entries)) 0
  counted = rw long (tested ∙ (rw take-length at (all_placed (placed m ports cells) entries (length entries) (omega arith))))

  pub unplaced : a ≡ false → false ≡ entries_in_order m ports entries
  unfolding entries_in_order
  unplaced e = rw (← counted, e)

  pub by_marks : a ≡ true → (c : ℕ) → cells ≤ c → {marks : List ℕ} {b : Bool} → marks ≡ marked (cell_of m) entries (replicate c 0) → b ≡ every (met marks) cells
      → b ≡ entries_in_order m ports entries
  unfolding entries_in_order
  by_marks e c few is found = rw (← counted, e) (found ∙ rw (is, ← long) (all_once m c entries (rw long few)))
