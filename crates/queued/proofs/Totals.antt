-- All queues together hold as many cells as the records say; so 16 is answered exactly when every cell of the pool is held.
use mathlib.Core.Path.{◌≡◌, refl, sym, ap, ◌∙◌}
use mathlib.Core.Bool.{Bool, true, false, not, ◌&&◌, ◌||◌, cond}
use mathlib.Core.Logic.{◌↔◌}
use mathlib.Core.List.{List, [], ◌∷◌}
use Prim.Native.Nat.{ℕ, zero, suc, ◌+◌, ◌≤◌, ◌<◌}
use native.Mathlib.Decide.{ℕ_discrete}
use native.Mathlib.Omega.{arith}
use lib.Dec.{eqb, ltb, leb}
use lib.ListN.{length, length-map}
use lib.Seq.{length-take-le}
use borrow.Author.Tests.{eq-eqb, ne_eqb, eqb-true, ltb-true, le-ltb, lt-leb, not-false}
use Rattle.laws.specs.Steps.{steps}
use Rattle.laws.proofs.Loops.{same_steps}
use Rattle.laws.proofs.Tests.{both}
use Rattle.queue_records.specs.Entries.{cell_of, initiator_of, target_of, of_pair, those}
use Rattle.queue_records.specs.Records.{ports_of, cells_of, count_of, entries_of, held_of}
use Rattle.queue_records.specs.Order.{in_order, usable}
use Rattle.queue_records.specs.Queue.{waiting, queue_of}
use Rattle.queue_records.proofs.Ordered.{stray, Ordered, ordered, usable_known, entries_long}
use Rattle.queue_entries.specs.Adding.{add_number}
use Rattle.demands.specs.History.{after}
use Rattle.queued.specs.Shelf.{Shelf, Call, next, queue}
use Rattle.queued.specs.History.{came, went}
use Rattle.queued.specs.Totals.{sum, all_cells}
use Rattle.queued.proofs.Added.{counted}
use Rattle.queued.proofs.Histories.{in_out_held, history_in_order}

sum_same : (f g : ℕ → ℕ) (n : ℕ) → ((k : ℕ) → f k ≡ g k) → sum f n ≡ sum g n
sum_same f g n e = same_steps _ _ 0 n (λ k u h. ap (λ x. u + x) (e k))

sum_add : (f g : ℕ → ℕ) (n : ℕ) → sum (λ k. f k + g k) n ≡ sum f n + sum g n
unfolding steps
sum_add f g zero = refl
sum_add f g (suc n) = let before_it = sum_add f g n in omega arith

sum_none : (n : ℕ) → sum (λ k. 0) n ≡ 0
unfolding steps
sum_none zero = refl
sum_none (suc n) = let before_it = sum_none n in omega arith

-- one of them is x, and the others are nothing
sum_past : (a x n : ℕ) → n ≤ a → sum (λ k. cond (eqb a k) x 0) n ≡ 0
unfolding steps
sum_past a x zero h = refl
sum_past a x (suc n) h = let before_it = sum_past a x n (omega arith) in rw (ne_eqb a n (λ e. omega arith)) (omega arith)

sum_one : (a x n : ℕ) → a < n → sum (λ k. cond (eqb a k) x 0) n ≡ x
unfolding steps
sum_one a x zero h = absurd (omega arith)
sum_one a x (suc n) h = go (ℕ_discrete a n) (sum_one a x n)
  where
    go : Dec (a ≡ n) → (a < n → sum (λ k. cond (eqb a k) x 0) n ≡ x) → sum (λ k. cond (eqb a k) x 0) n + cond (eqb a n) x 0 ≡ x
    go (yes e) below = let past = sum_past a x n (omega arith) in rw (eq-eqb a n e) (omega arith)
    go (no e) below = let b = below (omega arith) in rw (ne_eqb a n e) (omega arith)

module _ (m n cells : ℕ) where
  -- an entry of the shelf is of one pair
  one_pair : (e : ℕ) → initiator_of m e < n → target_of m e < n → sum (λ i. sum (λ t. cond (of_pair m i t e) 1 0) n) n ≡ 1
  one_pair e hi ht = sum_same _ (λ i. cond (eqb (initiator_of m e) i) 1 0) n row ∙ sum_one (initiator_of m e) 1 n hi
    where
      row : (i : ℕ) → sum (λ t. cond (eqb (initiator_of m e) i && eqb (target_of m e) t) 1 0) n ≡ cond (eqb (initiator_of m e) i) 1 0
      row i = go (eqb (initiator_of m e) i)
        where
          go : (b : Bool) → sum (λ t. cond (b && eqb (target_of m e) t) 1 0) n ≡ cond b 1 0
          go true = sum_one (target_of m e) 1 n ht
          go false = sum_none n

  all_pairs : (s : List ℕ) → length (those (stray m n cells) s) ≡ 0 → sum (λ i. sum (λ t. length (those (of_pair m i t) s)) n) n ≡ length s
  unfolding those
  all_pairs [] z = sum_same _ (λ i. 0) n (λ i. sum_none n) ∙ sum_none n
  all_pairs (e ∷ s) z = go (stray m n cells e) refl z (all_pairs s)
    where
      more : (i t : ℕ) → length (cond (of_pair m i t e) (e ∷ those (of_pair m i t) s) (those (of_pair m i t) s)) ≡ cond (of_pair m i t e) 1 0 + length (those (of_pair m i t) s)
      more i t = pick (of_pair m i t e)
        where
          pick : (b : Bool) → length (cond b (e ∷ those (of_pair m i t) s) (those (of_pair m i t) s)) ≡ cond b 1 0 + length (those (of_pair m i t) s)
          pick true = omega arith
          pick false = omega arith

      go : (b : Bool) → stray m n cells e ≡ b → length (cond b (e ∷ those (stray m n cells) s) (those (stray m n cells) s)) ≡ 0
          → (length (those (stray m n cells) s) ≡ 0 → sum (λ i. sum (λ t. length (those (of_pair m i t) s)) n) n ≡ length s)
          → sum (λ i. sum (λ t. length (cond (of_pair m i t e) (e ∷ those (of_pair m i t) s) (those (of_pair m i t) s))) n) n ≡ suc (length s)
      go true y z rest = absurd (omega arith)
      go false y z rest =
          let (_, pair) = both (ltb (cell_of m e) cells) _ (not-false _ y) in
          let (a, b) = both (ltb (initiator_of m e) n) (ltb (target_of m e) n) pair in
          let one = one_pair e (ltb-true _ _ a) (ltb-true _ _ b) in
          let old = rest z in
          sum_same _ (λ i. sum (λ t. cond (of_pair m i t e) 1 0) n + sum (λ t. length (those (of_pair m i t) s)) n) n (λ i. sum_same _ _ n (more i) ∙ sum_add _ _ n)
          ∙ sum_add _ _ n ∙ omega arith

-- the cells of all pairs
pub held_cells : (m c w : ℕ) (words : List ℕ) → Ordered m c words → (pool : List ℕ) → all_cells (ports_of words) (queue_of m w words pool) ≡ count_of words
unfolding queue_of
held_cells m c w words o pool =
    sum_same _ _ (ports_of words) (λ i. sum_same _ (λ t. length (waiting m words i t)) (ports_of words) (λ t. length-map (waiting m words i t) _))
    ∙ all_pairs m (ports_of words) (cells_of words) (held_of words) (omega (arith, counted m c words o (stray m (ports_of words) (cells_of words)), o.near))
    ∙ length-take-le (count_of words) (entries_of words) (omega (arith, entries_long m c words o.head, o.head.held))

-- 16 is answered exactly when, of a cell that could be added otherwise, every cell of the pool holds a queued packet
module _ (m c w : ℕ) (words : List ℕ) (i t : ℕ) (cell pool : List ℕ) where
  full_cases : (a b d e f : Bool) → ◌≡◌ {A = ℕ} (cond a 8 (cond b 1 (cond d 17 (cond e 17 (cond f 16 0))))) 16 → (e ≡ false) × (f ≡ true)
  full_cases true b d e f z = absurd (omega arith)
  full_cases false true d e f z = absurd (omega arith)
  full_cases false false true e f z = absurd (omega arith)
  full_cases false false false true f z = absurd (omega arith)
  full_cases false false false false true z = (refl, refl)
  full_cases false false false false false z = absurd (omega arith)

  pub full_only : add_number m c w words i t cell pool ≡ 16 → all_cells (ports_of words) (queue_of m w words pool) ≡ cells_of words
  unfolding add_number
  full_only z =
      let (fit, full) = full_cases (not (eqb (length cell) w)) (ltb (ports_of words) 1 || ltb m (ports_of words)) (leb (ports_of words) i || leb (ports_of words) t)
      (not (usable m c w words (length pool))) (eqb (count_of words) (cells_of words)) z in
      held_cells m c w words (usable_known m c w words (length pool) (not-false _ fit)).order pool ∙ eqb-true _ _ full

  -- of a whole cell for a pair of the shelf, in records and a pool that can be used
  module _ (whole : length cell ≡ w) (hi : i < ports_of words) (ht : t < ports_of words) (fit : usable m c w words (length pool) ≡ true) where
    the_number : add_number m c w words i t cell pool ≡ cond (eqb (count_of words) (cells_of words)) 16 0
    unfolding add_number
    the_number =
        let h = (usable_known m c w words (length pool) fit).order.head in
        rw (eq-eqb _ _ whole, le-ltb (ports_of words) 1 h.some_port, le-ltb m (ports_of words) h.ports, lt-leb (ports_of words) i hi, lt-leb (ports_of words) t ht, fit)

    pub full_exactly : (add_number m c w words i t cell pool ≡ 16) ↔ (all_cells (ports_of words) (queue_of m w words pool) ≡ cells_of words)
    full_exactly = (full_only, λ all. the_number ∙ rw (eq-eqb _ _ (sym (held_cells m c w words (usable_known m c w words (length pool) fit).order pool) ∙ all)))

    -- The room of a cell that went out is used again: while fewer are held than the pool has, the cell is taken in.
    pub room_again : (all_cells (ports_of words) (queue_of m w words pool) ≡ cells_of words → ⊥) → add_number m c w words i t cell pool ≡ 0
    room_again some = the_number ∙ rw (ne_eqb _ _ (λ e. some (held_cells m c w words (usable_known m c w words (length pool) fit).order pool ∙ e)))

-- ---- any history of calls

-- Cells in equals cells out plus cells held, over all pairs, from queues in order that are empty.
pub all_in_out_held : (m c w : ℕ) (s : Shelf) (calls : List Call) → in_order m c s.words ≡ true → ((i t : ℕ) → queue m c w i t s ≡ [])
    → let now = after (next m c w) s calls in
    let n = ports_of now.words in
    all_cells n (λ i t. came m c w i t s calls) ≡ all_cells n (λ i t. went m c w i t s calls) + count_of now.words
all_in_out_held m c w s calls order empty =
    let now = after (next m c w) s calls in
    let n = ports_of now.words in
    let total = held_cells m c w now.words (ordered m c now.words (history_in_order m c w calls s order)) now.pool in
    sum_same _ (λ i. sum (λ t. length (went m c w i t s calls)) n + sum (λ t. length (queue m c w i t now)) n) n
    (λ i. sum_same _ (λ t. length (went m c w i t s calls) + length (queue m c w i t now)) n (λ t. in_out_held m c w i t s calls (empty i t)) ∙ sum_add _ _ n)
    ∙ sum_add _ _ n ∙ ap (λ z. all_cells n (λ i t. went m c w i t s calls) + z) total
