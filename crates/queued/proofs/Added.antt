-- Adding a cell: it comes to the end of its pair's queue, and every other queue stays.
use mathlib.Core.Path.{◌≡◌, refl, sym, ap, ap₂, ◌∙◌}
use mathlib.Core.Bool.{Bool, true, false, ◌&&◌, cond}
use mathlib.Core.List.{List, [], ◌∷◌, ◌++◌, map, append-nil}
use Prim.Native.Nat.{ℕ, suc, ◌+◌, ◌-◌, ◌*◌, ◌/◌, ◌%◌, ◌<◌}
use native.Mathlib.Nat.{mul-add-mod_self_right, mul-add-div_right, mod-eq_of_lt, div-eq_of_lt, div-div-eq-div-mul}
use native.Mathlib.Omega.{arith}
use lib.Dec.{eqb}
use lib.ListN.{length, get_or, drop, take-append-drop, length-drop}
use lib.Seq.{take-append_seam}
use borrow.Author.Tests.{eq-eqb, eqb-true, eqb-false}
use Rattle.queue_records.specs.Entries.{cell_of, initiator_of, target_of, entry_of, of_cell, of_pair, those}
use Rattle.queue_records.specs.Records.{cells_of, count_of, entries_of, held_of, free_of}
use Rattle.queue_records.specs.Queue.{cell_at, stored, queue_of}
use Rattle.queue_records.proofs.Lists.{those_append, count_append}
use Rattle.queue_records.proofs.Ordered.{Ordered, entries_long}
use Rattle.queue_entries.specs.Adding.{next_cell, entered, add_number, add_words, add_pool}
use Rattle.queue_entries.proofs.Adds.{Room, room, next_cell_lem, next-room}
use Rattle.queued.proofs.Stored.{new_cell, other_cell}

map_append : {A B : Type 0} (f : A → B) (s t : List A) → map f (s ++ t) ≡ map f s ++ map f t
map_append f [] t = refl
map_append f (x ∷ s) t = ap (λ l. f x ∷ l) (map_append f s t)

-- two readings of the entries that differ at one cell agree where no entry is of that cell
map_agree : {B : Type 0} (m x : ℕ) (f g : ℕ → B) (p : ℕ → Bool) → ((e : ℕ) → (cell_of m e ≡ x → ⊥) → f e ≡ g e)
    → (s : List ℕ) → length (those (of_cell m x) s) ≡ 0 → map f (those p s) ≡ map g (those p s)
unfolding those
map_agree m x f g p same [] none = refl
map_agree m x f g p same (e ∷ s) none = go (of_cell m x e) refl none (map_agree m x f g p same s) (p e)
  where
    go : (b : Bool) → of_cell m x e ≡ b → length (cond b (e ∷ those (of_cell m x) s) (those (of_cell m x) s)) ≡ 0
        → (length (those (of_cell m x) s) ≡ 0 → map f (those p s) ≡ map g (those p s))
        → (d : Bool) → map f (cond d (e ∷ those p s) (those p s)) ≡ map g (cond d (e ∷ those p s) (those p s))
    go true t z rest d = absurd (omega arith)
    go false t z rest true = ap₂ (λ a l. a ∷ l) (same e (eqb-false (cell_of m e) x t)) (rest z)
    go false t z rest false = rest z

-- two numbers side by side
read_low : (m a b : ℕ) → b < m → (a * m + b) % m ≡ b
read_low m a b h = mul-add-mod_self_right a m b ∙ mod-eq_of_lt h

read_high : (m a b : ℕ) → b < m → (a * m + b) / m ≡ a
read_high m a b h = mul-add-div_right (omega arith) a b ∙ rw (div-eq_of_lt h) (omega arith)

-- what an entry says
module _ (m x i t : ℕ) (hi : i < m) (ht : t < m) where
  pub target_read : target_of m (entry_of m x i t) ≡ t
  target_read = read_low m (x * m + i) t ht

  pub initiator_read : initiator_of m (entry_of m x i t) ≡ i
  initiator_read = ap (λ z. z % m) (read_high m (x * m + i) t ht) ∙ read_low m x i hi

  pub cell_read : cell_of m (entry_of m x i t) ≡ x
  cell_read = sym (div-div-eq-div-mul (entry_of m x i t) m m) ∙ ap (λ z. z / m) (read_high m (x * m + i) t ht) ∙ read_high m x i hi

  pair_read : (j u : ℕ) → of_pair m j u (entry_of m x i t) ≡ (eqb i j && eqb t u)
  pair_read j u = ap₂ (λ a b. eqb a j && eqb b u) initiator_read target_read

-- the entries are those held and the free ones, and the first free one has its cell to itself
module _ (m c : ℕ) (words : List ℕ) (o : Ordered m c words) where
  pub all_entries : held_of words ++ free_of words ≡ entries_of words
  all_entries = take-append-drop (count_of words) (entries_of words)

  pub counted : (p : ℕ → Bool) → length (those p (held_of words)) + length (those p (free_of words)) ≡ length (those p (entries_of words))
  counted p = sym (count_append p (held_of words) (free_of words)) ∙ ap (λ (l : List ℕ). length (those p l)) all_entries

  module _ (free : count_of words < cells_of words) where
    pub some_free : free_of words ≡ get_or (free_of words) 0 0 ∷ drop 1 (free_of words)
    some_free = go (free_of words) (length-drop (count_of words) (entries_of words) ∙ rw (entries_long m c words o.head))
      where
        go : (s : List ℕ) → length s ≡ cells_of words - count_of words → s ≡ get_or s 0 0 ∷ drop 1 s
        go [] e = absurd (omega arith)
        go (x ∷ s) e = refl

    alone : next_cell m words < cells_of words → length (those (of_cell m (next_cell m words)) (held_of words)) ≡ 0
    unfolding those
    alone h =
        let p = of_cell m (next_cell m words) in
        let here : length (those p (free_of words)) ≡ suc (length (those p (drop 1 (free_of words)))) = ap (λ (l : List ℕ). length (those p l)) some_free ∙ rw (eq-eqb (next_cell m words) (next_cell m words) refl) in
        omega (arith, counted p, o.one (next_cell m words) h)

-- The queue of the pair grows by the cell at its end, and every other queue stays.
module _ (m c w : ℕ) (words : List ℕ) (i t : ℕ) (cell pool : List ℕ) (r : Room m c w words i t cell pool) where
  abbrev x : ℕ
  x = next_cell m words

  pub here : (i < m) × (t < m)
  here = (omega (arith, r.initiator, r.known.order.head.ports), omega (arith, r.target, r.known.order.head.ports))

  entered_queue : (j u : ℕ) → queue_of m w (entered m words i t) (stored w pool x cell) j u ≡ queue_of m w words pool j u ++ cond (eqb i j && eqb t u) (cell ∷ []) []
  unfolding queue_of entered those
  entered_queue j u =
      let (hi, ht) = here in
      let e = entry_of m x i t in
      let fits = next-room m c w words i t cell pool r in
      let f : ℕ → List ℕ = λ e. cell_at w (stored w pool x cell) (cell_of m e) in
      let g : ℕ → List ℕ = λ e. cell_at w pool (cell_of m e) in
      let p = of_pair m j u in
      ap (λ (l : List ℕ). map f (those p l)) (take-append_seam (held_of words ++ (e ∷ [])) (drop 1 (free_of words)))
      ∙ ap (map f) (those_append p (held_of words) (e ∷ []))
      ∙ map_append f (those p (held_of words)) (those p (e ∷ []))
      ∙ ap₂ (λ (a b : List (List ℕ)). a ++ b)
      (map_agree m x f g p (λ e other. other_cell w pool x cell r.whole fits (cell_of m e) other) (held_of words) (alone m c words r.known.order r.free (next_cell_lem m c w words i t cell pool r)))
      (last p f e (eqb i j && eqb t u) (pair_read m x i t hi ht j u) (ap (cell_at w (stored w pool x cell)) (cell_read m x i t hi ht) ∙ new_cell w pool x cell r.whole fits))
    where
      last : (p : ℕ → Bool) (f : ℕ → List ℕ) (e : ℕ) (b : Bool) → p e ≡ b → f e ≡ cell → map f (those p (e ∷ [])) ≡ cond b (cell ∷ []) []
      last p f e true y s = rw y (ap (λ (a : List ℕ). a ∷ []) s)
      last p f e false y s = rw y

module _ (m c w : ℕ) (words : List ℕ) (i t : ℕ) (cell pool : List ℕ) where
  pub added_queue : (j u : ℕ) → queue_of m w (add_words m c w words i t cell pool) (add_pool m c w words i t cell pool) j u
      ≡ queue_of m w words pool j u ++ cond (eqb (add_number m c w words i t cell pool) 0 && (eqb i j && eqb t u)) (cell ∷ []) []
  unfolding add_words add_pool
  added_queue j u = go (eqb (add_number m c w words i t cell pool) 0) refl
    where
      go : (b : Bool) → eqb (add_number m c w words i t cell pool) 0 ≡ b
          → queue_of m w (cond b (entered m words i t) words) (cond b (stored w pool (next_cell m words) cell) pool) j u ≡ queue_of m w words pool j u ++ cond (b && (eqb i j && eqb t u)) (cell ∷ []) []
      go true e = entered_queue m c w words i t cell pool (room m c w words i t cell pool (eqb-true _ 0 e)) j u
      go false e = sym (append-nil _)
