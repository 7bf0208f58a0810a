-- The granted heads leave: where their cells and their places lie, and the words then.
use mathlib.Core.Path.{◌≡◌, refl, sym, ap, ◌∙◌}
use mathlib.Core.Bool.{true}
use mathlib.Core.List.{List, [], ◌∷◌, ◌++◌, append_assoc}
use Prim.Native.Nat.{ℕ, ◌+◌, ◌*◌, ◌-◌, ◌≤◌, ◌<◌}
use native.Mathlib.Omega.{arith}
use lib.ListN.{length, get_or, set, take, drop, length-append, take-append-drop}
use lib.Seq.{length-take-le, drop-drop, drop_at, take_at}
use borrow.Rule.Slice.PartMut.{put_mid}
use Rattle.queue_records.specs.Entries.{cell_of, target_of, those}
use Rattle.queue_records.specs.Records.{records_len, ports_of, cells_of, count_of, held_of, free_of}
use Rattle.queue_records.specs.Order.{usable}
use Rattle.queue_records.proofs.Lists.{count_append}
use Rattle.queue_records.proofs.Ordered.{stray, Placed, each_placed, Ordered, Usable, usable_known, entries_long}
use Rattle.queues.specs.Parting.{leaving, staying}
use Rattle.queues.specs.Serving.{moved}
use Rattle.queue_records.proofs.Pools.{cell_room}
use Rattle.queues.proofs.Partings.{parted_count, both_long}

-- the held entries are put there, and then the number held
pub put_held : (words last : List ℕ) (z k n : ℕ) → length words ≡ records_len n
    → set (put_mid 3 k words last) 2 z ≡ ports_of words ∷ cells_of words ∷ z ∷ (last ++ drop k (drop 3 words))
put_held [] last z k n e = absurd (omega arith)
put_held (a ∷ []) last z k n e = absurd (omega arith)
put_held (a ∷ b ∷ []) last z k n e = absurd (omega arith)
put_held (a ∷ b ∷ d ∷ s) last z k n e = refl

-- there are words before them
pub head_words : (words last : List ℕ) (k n : ℕ) → length words ≡ records_len n → 2 < length (put_mid 3 k words last)
head_words [] last k n e = absurd (omega arith)
head_words (a ∷ []) last k n e = absurd (omega arith)
head_words (a ∷ b ∷ []) last k n e = absurd (omega arith)
head_words (a ∷ b ∷ d ∷ s) last k n e = omega arith

pub held_room : (m c : ℕ) (words : List ℕ) → Ordered m c words → count_of words ≤ length (drop 3 words)
held_room m c words o = omega (arith, entries_long m c words o.head, o.head.held)

module _ (m c w : ℕ) (words pool out sets : List ℕ) (fit : usable m c w words (length pool) ≡ true) (place : ports_of words * w ≤ length out) where
  known : Usable m c w words (length pool)
  known = usable_known m c w words (length pool) fit

  pub words_long : length words ≡ records_len (cells_of words)
  words_long = known.order.head.long

  pub words_room : count_of words ≤ length (drop 3 words)
  words_room = held_room m c words known.order

  pub leavers_near : length (those (stray m (ports_of words) (cells_of words)) (leaving m sets (held_of words))) ≡ 0
  leavers_near =
      let p = stray m (ports_of words) (cells_of words) in
      omega (arith, parted_count m p sets (held_of words), count_append p (held_of words) (free_of words), ap (λ (l : List ℕ). length (those p l)) (take-append-drop (count_of words) (drop 3 words)), known.order.near)

  -- the held entries, as the code takes them: those of words 3 to 3 + held
  module _ (held : ℕ) (is_held_lem : held ≡ count_of words) where
    pub held_are : take (3 + held - 3) (drop 3 words) ≡ held_of words
    held_are = let size : 3 + held - 3 ≡ count_of words = omega (arith, is_held_lem) in rw size

    pub end_room : 3 + held ≤ length words
    end_room = omega (arith, is_held_lem, known.order.head.held, known.order.head.long)

    module _ (kept : ℕ) (last : List ℕ) (took : let mid = take (3 + held - 3) (drop 3 words) in (kept ≡ length (staying m sets mid)) × (last ≡ staying m sets mid ++ leaving m sets mid)) where
      taken : (kept ≡ length (staying m sets (held_of words))) × (last ≡ staying m sets (held_of words) ++ leaving m sets (held_of words))
      taken = rw held_are at took

      held_long : length (held_of words) ≡ held
      held_long = length-take-le (count_of words) (drop 3 words) words_room ∙ sym is_held_lem

      pub kept_few : kept ≤ held
      kept_few = omega (arith, taken.0, both_long m sets (held_of words), held_long)

      -- whatever number stands before them then
      now_words : (z : ℕ) → set (put_mid 3 (3 + held - 3) words last) 2 z ≡ ports_of words ∷ cells_of words ∷ z ∷ (staying m sets (held_of words) ++ (leaving m sets (held_of words) ++ free_of words))
      now_words z =
          let size : 3 + held - 3 ≡ count_of words = omega (arith, is_held_lem) in
          put_held words last z (3 + held - 3) (cells_of words) known.order.head.long ∙ rw (size, taken.1, append_assoc)

      pub moved_words : set (put_mid 3 (3 + held - 3) words last) 2 kept ≡ moved m sets words
      unfolding moved
      moved_words = now_words kept ∙ rw taken.0

      -- and those that leave stand behind those that stay
      pub gone_there : (z : ℕ) → take (3 + held - (3 + kept)) (drop (3 + kept) (set (put_mid 3 (3 + held - 3) words last) 2 z)) ≡ leaving m sets (held_of words)
      gone_there z =
          let stay = staying m sets (held_of words) in
          let leave = leaving m sets (held_of words) in
          let n : 3 + held - (3 + kept) ≡ length leave = omega (arith, taken.0, both_long m sets (held_of words), held_long) in
          rw (now_words z, n)
          (ap (take (length leave)) (sym (drop-drop kept 3 (ports_of words ∷ cells_of words ∷ z ∷ (stay ++ (leave ++ free_of words)))) ∙ drop_at stay (leave ++ free_of words) kept (sym taken.0))
          ∙ take_at leave (free_of words) (length leave) refl)

      pub end_there : (z : ℕ) → 3 + held ≤ length (set (put_mid 3 (3 + held - 3) words last) 2 z)
      end_there z =
          let stay = staying m sets (held_of words) in
          let leave = leaving m sets (held_of words) in
          let free = free_of words in
          rw (now_words z) (omega (arith, both_long m sets (held_of words), held_long, length-append stay (leave ++ free), length-append leave free))

    pub leavers_fit : (s : List ℕ) → s ≡ leaving m sets (held_of words) → (j : ℕ) → j < length s
        → (cell_of m (get_or s j 0) * w + w ≤ length pool) × (target_of m (get_or s j 0) * w + w ≤ length out)
    leavers_fit s is j h =
        let p : Placed m (ports_of words) (cells_of words) (get_or s j 0) = each_placed m (ports_of words) (cells_of words) s (rw is leavers_near) j h in
        (cell_room w (cell_of m (get_or s j 0)) (cells_of words) (length pool) p.cell (omega (arith, known.size)), cell_room w (target_of m (get_or s j 0)) (ports_of words) (length out) p.target place)
