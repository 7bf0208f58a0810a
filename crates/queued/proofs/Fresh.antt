-- New queues are in order, and every one of them is empty.
use mathlib.Core.Path.{◌≡◌, refl, ◌∙◌}
use mathlib.Core.Bool.{Bool, true, false, not, ◌||◌, cond}
use mathlib.Core.List.{List, [], ◌∷◌}
use Prim.Native.Nat.{ℕ, zero, suc, ◌+◌, ◌*◌, ◌/◌, ◌%◌, ◌≤◌, ◌<◌}
use native.Mathlib.Nat.{mul-one, div-add-mod'}
use native.Mathlib.Decide.{ℕ_discrete, dec_lt}
use native.Mathlib.Omega.{arith}
use lib.Dec.{eqb, ltb}
use lib.ListN.{length}
use borrow.Author.Tests.{eq-eqb, ne_eqb, eqb-true, lt-ltb, le-ltb, ltb-false, not-false}
use Rattle.laws.specs.Steps.{steps}
use Rattle.laws.proofs.Parts.{length_parts}
use Rattle.laws.proofs.Tests.{neither, every}
use Rattle.queue_records.specs.Entries.{entry_of, of_cell, those}
use Rattle.queue_records.specs.Records.{records_len, words_of}
use Rattle.queue_records.specs.Order.{usable}
use Rattle.queue_records.specs.Making.{wrong_pool, fresh_entries, new_number, new_words}
use Rattle.queue_records.specs.Queue.{queue_of}
use Rattle.queue_records.proofs.Lists.{count_append}
use Rattle.queue_records.proofs.Ordered.{stray, Ordered, in_order_lem}
use Rattle.queued.proofs.Added.{cell_read, initiator_read, target_read}

module _ (m : ℕ) (more : 0 < m) where
  fresh_long : (k : ℕ) → length (fresh_entries m k) ≡ k
  fresh_long k = length_parts (λ k. entry_of m k 0 0 ∷ []) 1 (λ k. refl) k ∙ mul-one k

  -- one more entry
  next_count : (p : ℕ → Bool) (k : ℕ) → length (those p (fresh_entries m (suc k))) ≡ length (those p (fresh_entries m k)) + length (those p (entry_of m k 0 0 ∷ []))
  unfolding steps
  next_count p k = count_append p (fresh_entries m k) (entry_of m k 0 0 ∷ [])

  -- cell x has none of the first k entries, or one
  fresh_count : (x k : ℕ) → length (those (of_cell m x) (fresh_entries m k)) ≡ cond (ltb x k) 1 0
  unfolding steps those
  fresh_count x zero = rw (le-ltb x 0 (omega arith))
  fresh_count x (suc k) = next_count (of_cell m x) k ∙ rw (fresh_count x k, cell_read m k 0 0 more more) (go (ℕ_discrete k x))
    where
      go : Dec (k ≡ x) → cond (ltb x k) 1 0 + length (cond (eqb k x) (entry_of m k 0 0 ∷ []) []) ≡ cond (ltb x (suc k)) 1 0
      go (yes e) = rw (eq-eqb k x e, lt-ltb x (suc k) (omega arith), le-ltb x k (omega arith))
      go (no e) = rw (ne_eqb k x e) (apart (dec_lt x k))
        where
          apart : Dec (x < k) → cond (ltb x k) 1 0 + 0 ≡ cond (ltb x (suc k)) 1 0
          apart (yes h) = rw (lt-ltb x k h, lt-ltb x (suc k) (omega arith))
          apart (no h) = rw (le-ltb x k (omega arith), le-ltb x (suc k) (omega arith))

  fresh-near : (n cells : ℕ) → 1 ≤ n → (k : ℕ) → k ≤ cells → length (those (stray m n cells) (fresh_entries m k)) ≡ 0
  unfolding steps those
  fresh-near n cells some zero h = refl
  fresh-near n cells some (suc k) h = next_count (stray m n cells) k
      ∙ rw (fresh-near n cells some k (omega arith), cell_read m k 0 0 more more, initiator_read m k 0 0 more more, target_read m k 0 0 more more, lt-ltb k cells h, lt-ltb 0 n some)

  fresh_ordered : (c n cells : ℕ) → 1 ≤ n → n ≤ m → 1 ≤ cells → cells ≤ c → Ordered m c (words_of n cells [] (fresh_entries m cells))
  fresh_ordered c n cells some few one cells-few = record {
    head = record { some_port = some; ports = few; some_cell = one; cells = cells-few; held = omega arith; long = omega (arith, fresh_long cells) };
    near = fresh-near n cells some cells (omega arith);
    one = λ x h. fresh_count x cells ∙ rw (lt-ltb x cells h);
  }

none_given : (a b d : Bool) → ◌≡◌ {A = ℕ} (cond a 8 (cond b 1 (cond d 17 0))) 0 → (b ≡ false) × (d ≡ false)
none_given true b d z = absurd (omega arith)
none_given false true d z = absurd (omega arith)
none_given false false true z = absurd (omega arith)
none_given false false false z = (refl, refl)

module _ (m c w : ℕ) (words : List ℕ) (n len : ℕ) (done : new_number m c w words n len ≡ 0) where
  the_words : new_words m c w words n len ≡ words_of n (len / w) [] (fresh_entries m (len / w))
  unfolding new_words
  the_words = rw done

  -- the pool is theirs
  pub new_usable : usable m c w (new_words m c w words n len) len ≡ true
  unfolding usable new_number wrong_pool
  new_usable =
      let (ports, fits) = none_given (not (eqb (length words) (records_len (len / w)))) (ltb n 1 || ltb m n) (not (eqb (len % w) 0) || (ltb (len / w) 1 || ltb c (len / w))) done in
      let (some, few) = neither (ltb n 1) (ltb m n) ports in
      let (whole, cells) = neither (not (eqb (len % w) 0)) (ltb (len / w) 1 || ltb c (len / w)) fits in
      let (one, most) = neither (ltb (len / w) 1) (ltb c (len / w)) cells in
      let even = eqb-true (len % w) 0 (not-false _ whole) in
      rw the_words
      (every (in_order_lem m c _ (fresh_ordered m (omega (arith, ltb-false n 1 some, ltb-false m n few)) c n (len / w) (ltb-false n 1 some) (ltb-false m n few) (ltb-false (len / w) 1 one) (ltb-false c (len / w) most)))
      (eq-eqb len (len / w * w) (omega (arith, div-add-mod' len w))))

  pub new_empty : (pool : List ℕ) (i t : ℕ) → queue_of m w (new_words m c w words n len) pool i t ≡ []
  unfolding queue_of those
  new_empty pool i t = rw the_words
