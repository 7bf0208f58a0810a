-- What a call leaves of records in order is in order.
use mathlib.Core.Path.{◌≡◌, sym, ap, ◌∙◌}
use mathlib.Core.Bool.{Bool, true, false, cond}
use mathlib.Core.List.{List, [], ◌∷◌, ◌++◌}
use Prim.Native.Nat.{ℕ, ◌+◌}
use native.Mathlib.Omega.{arith}
use lib.Dec.{eqb}
use lib.ListN.{length, get_or, drop, length-append, length-drop}
use lib.Seq.{get_or-drop, length-take-le}
use borrow.Author.Tests.{eqb-true, lt-ltb}
use Rattle.laws.proofs.Tests.{arms}
use Rattle.ports.specs.declared.state.State.{State}
use Rattle.ports.specs.declared.state.Mode.{Mode}
use Rattle.queue_records.specs.Entries.{entry_of, of_cell, those}
use Rattle.queue_records.specs.Records.{ports_of, cells_of, count_of, entries_of, held_of, free_of, words_of}
use Rattle.queue_records.specs.Order.{in_order}
use Rattle.queue_records.proofs.Lists.{count_append, none_at}
use Rattle.queue_records.proofs.Ordered.{stray, Ordered, ordered, in_order_lem, entries_long}
use Rattle.queue_entries.specs.Adding.{next_cell, entered, add_number, add_words}
use Rattle.queue_entries.proofs.Adds.{Room, room, next_cell_lem}
use Rattle.queues.specs.Parting.{leaving, staying}
use Rattle.queues.specs.Serving.{moved, answered, slot_words}
use Rattle.queues.proofs.Partings.{both_long, parted_count}
use Rattle.queued.proofs.Added.{here, counted, some_free, cell_read, initiator_read, target_read}

-- records with other lists of held and free entries, that have as many of each kind
module _ (m c : ℕ) (words : List ℕ) (o : Ordered m c words) (held free : List ℕ) (long : length held + length free ≡ cells_of words)
    (near : length (those (stray m (ports_of words) (cells_of words)) (held ++ free)) ≡ 0)
    (same : (x : ℕ) → length (those (of_cell m x) (held ++ free)) ≡ length (those (of_cell m x) (entries_of words))) where
  pub still_ordered : Ordered m c (words_of (ports_of words) (cells_of words) held free)
  still_ordered =
      let h = o.head in
      record {
        head = record { some_port = h.some_port; ports = h.ports; some_cell = h.some_cell; cells = h.cells; held = omega arith; long = omega (arith, length-append held free) };
        near = near;
        one = λ x l. same x ∙ o.one x l;
      }

-- ---- a cell is added

module _ (m c w : ℕ) (words : List ℕ) (i t : ℕ) (cell pool : List ℕ) (r : Room m c w words i t cell pool) where
  abbrev v : ℕ
  v = entry_of m (next_cell m words) i t

  abbrev o : Ordered m c words
  o = r.known.order

  rest : List ℕ
  rest = drop 1 (free_of words)

  -- as many as before, where the new entry is told from the free one by nothing
  entered_count : (p : ℕ → Bool) → p v ≡ p (get_or (free_of words) 0 0) → length (those p ((held_of words ++ (v ∷ [])) ++ rest)) ≡ length (those p (entries_of words))
  unfolding rest those
  entered_count p e =
      let free : length (those p (free_of words)) ≡ length (those p (v ∷ [])) + length (those p (drop 1 (free_of words))) =
      ap (λ (l : List ℕ). length (those p l)) (some_free m c words o r.free) ∙ rw (← e) (go (p v)) in
      omega (arith, count_append p (held_of words ++ (v ∷ [])) (drop 1 (free_of words)), count_append p (held_of words) (v ∷ []), counted m c words o p)
    where
      go : (b : Bool) → length (cond b (get_or (free_of words) 0 0 ∷ those p (drop 1 (free_of words))) (those p (drop 1 (free_of words)))) ≡ length (cond b (v ∷ []) []) + length (those p (drop 1 (free_of words)))
      go true = omega arith
      go false = omega arith

  placed_new : stray m (ports_of words) (cells_of words) v ≡ false
  placed_new =
      let (hi, ht) = here m c w words i t cell pool r in
      let x = next_cell m words in
      rw (cell_read m x i t hi ht, initiator_read m x i t hi ht, target_read m x i t hi ht, lt-ltb x (cells_of words) (next_cell_lem m c w words i t cell pool r), lt-ltb i (ports_of words) r.initiator, lt-ltb t (ports_of words) r.target)

  -- the free entry was in its place
  placed_free : stray m (ports_of words) (cells_of words) (get_or (free_of words) 0 0) ≡ false
  placed_free =
      let long = entries_long m c words o.head in
      rw (get_or-drop (count_of words) (entries_of words) 0 0) (none_at (stray m (ports_of words) (cells_of words)) (entries_of words) o.near (count_of words + 0) (omega (arith, r.free)))

  entered_ordered : Ordered m c (entered m words i t)
  unfolding entered rest
  entered_ordered =
      let (hi, ht) = here m c w words i t cell pool r in
      let e-long = entries_long m c words o.head in
      still_ordered m c words o (held_of words ++ (v ∷ [])) (drop 1 (free_of words))
      (omega (arith, r.free, length-append (held_of words) (v ∷ []), length-take-le (count_of words) (entries_of words) (omega (arith, r.free)), length-drop 1 (free_of words), length-drop (count_of words) (entries_of words)))
      (entered_count (stray m (ports_of words) (cells_of words)) (placed_new ∙ sym placed_free) ∙ o.near)
      (λ x. entered_count (of_cell m x) (ap (λ y. eqb y x) (cell_read m (next_cell m words) i t hi ht)))

-- ---- a slot is served

module _ (m c : ℕ) (words : List ℕ) (o : Ordered m c words) (sets : List ℕ) where
  moved_count : (p : ℕ → Bool) → length (those p (staying m sets (held_of words) ++ (leaving m sets (held_of words) ++ free_of words))) ≡ length (those p (entries_of words))
  moved_count p =
      omega (arith, count_append p (staying m sets (held_of words)) (leaving m sets (held_of words) ++ free_of words), count_append p (leaving m sets (held_of words)) (free_of words), parted_count m p sets (held_of words), counted m c words o p)

  moved_ordered : Ordered m c (moved m sets words)
  unfolding moved
  moved_ordered =
      let e-long = entries_long m c words o.head in
      still_ordered m c words o (staying m sets (held_of words)) (leaving m sets (held_of words) ++ free_of words)
      (omega (arith, both_long m sets (held_of words), length-append (leaving m sets (held_of words)) (free_of words), length-take-le (count_of words) (entries_of words) (omega (arith, o.head.held)), length-drop (count_of words) (entries_of words), o.head.held))
      (moved_count (stray m (ports_of words) (cells_of words)) ∙ o.near)
      (λ x. moved_count (of_cell m x))

-- ---- the calls

pub added_in_order : (m c w : ℕ) (words : List ℕ) (i t : ℕ) (cell pool : List ℕ) → in_order m c words ≡ true → in_order m c (add_words m c w words i t cell pool) ≡ true
unfolding add_words
added_in_order m c w words i t cell pool e = arms (λ (l : List ℕ). in_order m c l ≡ true) (eqb (add_number m c w words i t cell pool) 0) _ _
    (λ z. in_order_lem m c (entered m words i t) (entered_ordered m c w words i t cell pool (room m c w words i t cell pool (eqb-true _ 0 z)))) (λ _. e)

pub served-in_order : (m c w : ℕ) (words : List ℕ) (st : State) (slot : ℕ) (mode : Mode) (pool out : List ℕ) → in_order m c words ≡ true
    → in_order m c (slot_words m c w words st slot mode pool out) ≡ true
unfolding slot_words
served-in_order m c w words st slot mode pool out e = arms (λ (l : List ℕ). in_order m c l ≡ true) (eqb (answered m c w words st slot mode pool out).answer.number 0) _ _
    (λ z. in_order_lem m c _ (moved_ordered m c words (ordered m c words e) _)) (λ _. e)
