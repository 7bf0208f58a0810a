-- A cell is added: what its number says, and the words then.
use mathlib.Core.Path.{◌≡◌, refl, sym, ap, ◌∙◌}
use mathlib.Core.Bool.{Bool, true, false, not, ◌||◌, cond}
use mathlib.Core.List.{List, [], ◌∷◌, ◌++◌}
use Prim.Native.Nat.{ℕ, suc, ◌+◌, ◌*◌, ◌≤◌, ◌<◌}
use native.Mathlib.Numerals.{add-one}
use native.Mathlib.Omega.{arith}
use lib.Dec.{eqb, ltb, leb}
use lib.ListN.{length, set, take, drop, length-append}
use lib.Seq.{append_snoc, drop-drop, get_or-drop, set_split, length-take-le}
use borrow.Author.Tests.{eqb-true, eqb-false, leb-false, not-false}
use Rattle.laws.proofs.Tests.{neither}
use Rattle.queue_records.specs.Entries.{entry_of}
use Rattle.queue_records.specs.Records.{records_len, ports_of, cells_of, count_of}
use Rattle.queue_records.specs.Order.{usable}
use Rattle.queue_records.proofs.Ordered.{Usable, usable_known, entries_long, each_placed}
use Rattle.queue_entries.specs.Adding.{next_cell, entered, add_number}
use Rattle.queue_records.proofs.Pools.{cell_room}

-- it becomes the last one held
pub entered_words : (m : ℕ) (words : List ℕ) (i t : ℕ) → length words ≡ records_len (cells_of words) → count_of words < cells_of words
    → set (set words (3 + count_of words) (entry_of m (next_cell m words) i t)) 2 (count_of words + 1) ≡ entered m words i t
unfolding entered
entered_words m [] i t long free = absurd (omega arith)
entered_words m (a ∷ []) i t long free = absurd (omega arith)
entered_words m (a ∷ b ∷ []) i t long free = absurd (omega arith)
entered_words m (a ∷ b ∷ h ∷ s) i t long free =
    let v = entry_of m (next_cell m (a ∷ b ∷ h ∷ s)) i t in
    let at : 3 + h ≡ suc (suc (suc h)) = omega arith in
    let room : h < length s = omega arith in
    let more : length (take h s ++ (v ∷ [])) ≡ h + 1 = length-append (take h s) (v ∷ []) ∙ ap (λ n. n + 1) (length-take-le h s (omega arith)) in
    rw (at, more, drop-drop 1 h s, add-one, append_snoc, set_split s h v room)

none_given : (a b c d e : Bool) → ◌≡◌ {A = ℕ} (cond a 8 (cond b 1 (cond c 17 (cond d 17 (cond e 16 0))))) 0 → (a ≡ false) × (b ≡ false) × (c ≡ false) × (d ≡ false) × (e ≡ false)
none_given true b c d e z = absurd (omega arith)
none_given false true c d e z = absurd (omega arith)
none_given false false true d e z = absurd (omega arith)
none_given false false false true e z = absurd (omega arith)
none_given false false false false true z = absurd (omega arith)
none_given false false false false false z = (refl, refl, refl, refl, refl)

-- what is known of a cell that is taken in
pub record Room (m c w : ℕ) (words : List ℕ) (i t : ℕ) (cell pool : List ℕ) : Type 0 where
  pub whole : length cell ≡ w
  pub known : Usable m c w words (length pool)
  pub initiator : i < ports_of words
  pub target : t < ports_of words
  pub free : count_of words < cells_of words

module _ (m c w : ℕ) (words : List ℕ) (i t : ℕ) (cell pool : List ℕ) where
  pub room : add_number m c w words i t cell pool ≡ 0 → Room m c w words i t cell pool
  unfolding add_number
  room e =
      let (whole, ports, pair, fit, full) = none_given (not (eqb (length cell) w)) (ltb (ports_of words) 1 || ltb m (ports_of words)) (leb (ports_of words) i || leb (ports_of words) t)
      (not (usable m c w words (length pool))) (eqb (count_of words) (cells_of words)) e in
      let known = usable_known m c w words (length pool) (not-false _ fit) in
      let (no-i, no-t) = neither (leb (ports_of words) i) (leb (ports_of words) t) pair in
      let other = eqb-false (count_of words) (cells_of words) full in
      record {
        whole = eqb-true (length cell) w (not-false _ whole);
        known = known;
        initiator = leb-false (ports_of words) i no-i;
        target = leb-false (ports_of words) t no-t;
        free = omega (arith, known.order.head.held);
      }

  module _ (r : Room m c w words i t cell pool) where
    pub next_cell_lem : next_cell m words < cells_of words
    next_cell_lem =
        let o = r.known.order in
        let long = entries_long m c words o.head in
        rw (get_or-drop (count_of words) (drop 3 words) 0 0) (each_placed m (ports_of words) (cells_of words) (drop 3 words) o.near (count_of words + 0) (omega (arith, r.free))).cell

    pub next-room : next_cell m words * w + w ≤ length pool
    next-room = cell_room w (next_cell m words) (cells_of words) (length pool) next_cell_lem (omega (arith, r.known.size))

  -- so what is asked of the cell's new place, and of the words, is known
  module _ {number x : ℕ} (is : number ≡ add_number m c w words i t cell pool) (none : number ≡ 0) (at : x ≡ next_cell m words) where
    is_room : Room m c w words i t cell pool
    is_room = room (sym is ∙ none)

    below : x < c
    below = rw at (omega (arith, next_cell_lem is_room, is_room.known.order.head.cells))

    pub can_store : (length cell ≡ w) × (x < c) × (x * w + w ≤ length pool)
    can_store = (is_room.whole, below, rw at (next-room is_room))

    pub new_entry : (x < c) × (i < m) × (t < m)
    new_entry =
        let h = is_room.known.order.head in
        (below, omega (arith, is_room.initiator, h.ports), omega (arith, is_room.target, h.ports))

    pub can_enter : (x ≡ next_cell m words) × (length words ≡ records_len (cells_of words)) × (count_of words < cells_of words)
    can_enter = (at, is_room.known.order.head.long, is_room.free)

-- where the pair is declined, so is the whole; where it is not, the rest decides
pub pair_declined : (a b : Bool) (k r : ℕ) → k ≡ cond a 1 (cond b 17 0) → (k ≡ 0 → ⊥) → k ≡ cond a 1 (cond b 17 r)
pair_declined true b k r e some = e
pair_declined false true k r e some = e
pair_declined false false k r e some = absurd (some e)

pub pair_found : (a b : Bool) (r : ℕ) → ◌≡◌ {A = ℕ} 0 (cond a 1 (cond b 17 0)) → cond a 1 (cond b 17 r) ≡ r
pair_found true b r e = absurd (omega (arith, e))
pair_found false true r e = absurd (omega (arith, e))
pair_found false false r e = refl
