-- What records in order say of their entries, and when records are in order.
use mathlib.Core.Path.{◌≡◌, ◌∙◌}
use mathlib.Core.Bool.{Bool, true, not}
use mathlib.Core.List.{List}
use Prim.Native.Nat.{ℕ, ◌*◌, ◌<◌}
use native.Mathlib.Omega.{arith}
use lib.Dec.{eqb, ltb}
use lib.ListN.{length, get_or, length-drop}
use borrow.Author.Tests.{eq-eqb, eqb-true, ltb-true, le-leb, not-false}
use Rattle.laws.proofs.Every.{every_each, each_every}
use Rattle.laws.proofs.Tests.{both, every as and_both, in_range}
use Rattle.queue_records.specs.Entries.{cell_of, initiator_of, target_of, of_cell, those}
use Rattle.queue_records.specs.Records.{ports_of, cells_of, entries_of}
use Rattle.queue_records.specs.Order.{placed, once, head_in_order, entries_in_order, in_order, usable}
use Rattle.queue_records.proofs.Lists.{none_at}
use Rattle.queue_records.proofs.Heads.{Head, head_known}

-- an entry out of place
abbrev pub stray : ℕ → ℕ → ℕ → ℕ → Bool
stray m ports cells e = not (placed m ports cells e)

pub record Ordered (m c : ℕ) (words : List ℕ) : Type 0 where
  pub head : Head m c words
  pub near : length (those (stray m (ports_of words) (cells_of words)) (entries_of words)) ≡ 0
  pub one : (x : ℕ) → x < cells_of words → length (those (of_cell m x) (entries_of words)) ≡ 1

pub entries_long : (m c : ℕ) (words : List ℕ) → Head m c words → length (entries_of words) ≡ cells_of words
entries_long m c words h = length-drop 3 words ∙ omega (arith, h.long)

pub ordered : (m c : ℕ) (words : List ℕ) → in_order m c words ≡ true → Ordered m c words
unfolding in_order entries_in_order
ordered m c words e =
    let (head, entries) = both (head_in_order m c words) _ e in
    let h = head_known m c words head in
    let long = entries_long m c words h in
    let (near, one) = both (eqb (length (those (stray m (ports_of words) (length (entries_of words))) (entries_of words))) 0) _ entries in
    record {
      head = h;
      near = eqb-true _ 0 (rw long at near);
      one = λ x l. eqb-true (length (those (of_cell m x) (entries_of words))) 1 (every_each (once m (entries_of words)) (length (entries_of words)) one x (rw long l));
    }

head_true : (m c : ℕ) (words : List ℕ) → Head m c words → head_in_order m c words ≡ true
unfolding head_in_order
head_true m c words h =
    and_both (in_range h.some_port h.ports) (and_both (in_range h.some_cell h.cells) (and_both (le-leb _ _ h.held) (eq-eqb _ _ h.long)))

pub in_order_lem : (m c : ℕ) (words : List ℕ) → Ordered m c words → in_order m c words ≡ true
unfolding in_order entries_in_order
in_order_lem m c words o =
    let long = entries_long m c words o.head in
    and_both (head_true m c words o.head)
    (rw long (and_both (eq-eqb _ 0 o.near) (each_every (once m (entries_of words)) (cells_of words) (λ x l. eq-eqb (length (those (of_cell m x) (entries_of words))) 1 (o.one x l)))))

-- the cell of an entry is one of the pool, and its pair one of the shelf
pub record Placed (m ports cells e : ℕ) : Type 0 where
  pub cell : cell_of m e < cells
  pub initiator : initiator_of m e < ports
  pub target : target_of m e < ports

is_placed : (m ports cells e : ℕ) → placed m ports cells e ≡ true → Placed m ports cells e
is_placed m ports cells e p =
    let (cell, pair) = both (ltb (cell_of m e) cells) _ p in
    let (i, t) = both (ltb (initiator_of m e) ports) _ pair in
    record { cell = ltb-true (cell_of m e) cells cell; initiator = ltb-true (initiator_of m e) ports i; target = ltb-true (target_of m e) ports t }

module _ (m ports cells : ℕ) (s : List ℕ) (near : length (those (stray m ports cells) s) ≡ 0) where
  pub each_placed : (k : ℕ) → k < length s → Placed m ports cells (get_or s k 0)
  each_placed k h = is_placed m ports cells (get_or s k 0) (not-false _ (none_at (stray m ports cells) s near k h))

-- the records are in order, and the pool is theirs
pub record Usable (m c w : ℕ) (words : List ℕ) (len : ℕ) : Type 0 where
  pub order : Ordered m c words
  pub size : len ≡ cells_of words * w

pub usable_known : (m c w : ℕ) (words : List ℕ) (len : ℕ) → usable m c w words len ≡ true → Usable m c w words len
unfolding usable
usable_known m c w words len e =
    let (order, size) = both (in_order m c words) (eqb len (cells_of words * w)) e in
    record { order = ordered m c words order; size = eqb-true len (cells_of words * w) size }
