-- The pass that moves the entries that stay to the front, entry by entry.
use mathlib.Core.Path.{◌≡◌, refl, sym, ap, ◌∙◌}
use mathlib.Core.Bool.{Bool, true, false, cond}
use mathlib.Core.List.{List, [], ◌∷◌, ◌++◌, append-nil}
use Prim.Native.Nat.{ℕ, ◌+◌, ◌-◌, ◌≤◌, ◌<◌}
use native.Mathlib.Nat.{le_of_eq}
use native.Mathlib.Numerals.{add-one}
use native.Mathlib.Omega.{arith}
use lib.ListN.{length, get_or, take, drop, set, length-append, length-drop, drop_of_length-le}
use lib.Seq.{drop-cons, append_snoc, get_or-append-add, get_or-drop, take_at}
use borrow.Rule.Slice.PartMut.{put_mid}
use Rattle.laws.specs.Sets.{has, without}
use Rattle.queue_records.specs.Entries.{cell_of, initiator_of, target_of, those}
use Rattle.queue_records.proofs.Lists.{put_next}
use Rattle.queue_records.specs.Queue.{cell_at, stored}
use Rattle.queues.specs.Parting.{granted, spent, leaving, staying, forwarded}

-- those that have p stay or leave
module _ (m : ℕ) (p : ℕ → Bool) where
  pub parted_count : (sets s : List ℕ) → length (those p (staying m sets s)) + length (those p (leaving m sets s)) ≡ length (those p s)
  unfolding staying leaving those
  parted_count sets [] = refl
  parted_count sets (e ∷ s) = go (granted m sets e) (p e) refl (parted_count (spent m sets e) s) (parted_count sets s)
    where
      go : (b d : Bool) → p e ≡ d → length (those p (staying m (spent m sets e) s)) + length (those p (leaving m (spent m sets e) s)) ≡ length (those p s)
          → length (those p (staying m sets s)) + length (those p (leaving m sets s)) ≡ length (those p s)
          → length (those p (cond b (staying m (spent m sets e) s) (e ∷ staying m sets s))) + length (those p (cond b (e ∷ leaving m (spent m sets e) s) (leaving m sets s)))
          ≡ length (cond d (e ∷ those p s) (those p s))
      go true true q h l = rw q (omega arith)
      go true false q h l = rw q h
      go false true q h l = rw q (omega arith)
      go false false q h l = rw q l

pub both_long : (m : ℕ) (sets s : List ℕ) → length (staying m sets s) + length (leaving m sets s) ≡ length s
unfolding staying leaving
both_long m sets [] = refl
both_long m sets (e ∷ s) = go (granted m sets e) (both_long m (spent m sets e) s) (both_long m sets s)
  where
    go : (b : Bool) → length (staying m (spent m sets e) s) + length (leaving m (spent m sets e) s) ≡ length s → length (staying m sets s) + length (leaving m sets s) ≡ length s
        → length (cond b (staying m (spent m sets e) s) (e ∷ staying m sets s)) + length (cond b (e ∷ leaving m (spent m sets e) s) (leaving m sets s)) ≡ length (e ∷ s)
    go true h l = omega arith
    go false h l = omega arith

-- the first k entries are parted, and kept of them stay
pub record Parting (m : ℕ) (sets entries blank : List ℕ) (k kept : ℕ) (left now leavers : List ℕ) : Type 0 where
  pub stay : List ℕ
  pub leave : List ℕ
  pub keeps : length stay ≡ kept
  pub total : kept + length leave ≡ k
  pub to_stay : staying m sets entries ≡ stay ++ staying m left (drop k entries)
  pub to_leave : leaving m sets entries ≡ leave ++ leaving m left (drop k entries)
  pub entries_now : now ≡ stay ++ drop kept entries
  pub leavers_now : leavers ≡ leave ++ drop (length leave) blank

pub none_parted : (m : ℕ) (sets entries blank : List ℕ) → Parting m sets entries blank 0 0 sets entries blank
none_parted m sets entries blank = record { stay = []; leave = []; keeps = refl; total = refl; to_stay = refl; to_leave = refl; entries_now = refl; leavers_now = refl }

module _ (m : ℕ) (sets entries : List ℕ) (few : length (leaving m sets entries) ≤ m) where
  module _ {blank : List ℕ} {k kept : ℕ} {left now leavers : List ℕ} (p : Parting m sets entries blank k kept left now leavers) where
    kept_few : kept ≤ k
    kept_few = omega (arith, p.total)

    module _ (more : k < length entries) where
      -- the next entry stands where it stood
      still : get_or now k 0 ≡ get_or entries k 0
      still =
          let d = k - kept in
          let e : length p.stay + d ≡ k = omega (arith, p.keeps, kept_few) in
          let f : kept + d ≡ k = omega (arith, kept_few) in
          ap (λ (l : List ℕ). get_or l k 0) p.entries_now ∙ ap (λ n. get_or (p.stay ++ drop kept entries) n 0) (sym e)
          ∙ get_or-append-add p.stay (drop kept entries) d 0 ∙ get_or-drop kept entries d 0 ∙ ap (λ n. get_or entries n 0) f

      next : drop k entries ≡ get_or now k 0 ∷ drop (k + 1) entries
      next = rw (add-one, still) (drop-cons entries k 0 more)

      module _ (i t : ℕ) (b : Bool) (is-i : i ≡ initiator_of m (get_or now k 0)) (is-t : t ≡ target_of m (get_or now k 0)) (is_b : b ≡ has (get_or left i 0) t) where
        asked : granted m left (get_or now k 0) ≡ b
        asked = rw (← is-i, ← is-t) (sym is_b)

        -- the entry leaves
        module _ (yes : b ≡ true) where
          leaves : leaving m left (drop k entries) ≡ get_or now k 0 ∷ leaving m (spent m left (get_or now k 0)) (drop (k + 1) entries)
          unfolding leaving
          leaves = rw (next, asked, yes)

          stays_out : staying m left (drop k entries) ≡ staying m (spent m left (get_or now k 0)) (drop (k + 1) entries)
          unfolding staying
          stays_out = rw (next, asked, yes)

          pub leave_few : k - kept < m
          leave_few =
              omega (arith, few, p.total, ap length (p.to_leave ∙ ap (λ (l : List ℕ). p.leave ++ l) leaves), length-append p.leave (get_or now k 0 ∷ leaving m (spent m left (get_or now k 0)) (drop (k + 1) entries)))

          pub next_leaves : (v : ℕ) → v ≡ without (get_or left i 0) t → length blank ≡ m
              → Parting m sets entries blank (k + 1) kept (set left i v) now (set leavers (k - kept) (get_or now k 0))
          next_leaves v is-v long =
              let e = get_or now k 0 in
              let at : length p.leave ≡ k - kept = omega (arith, p.total) in
              let more-long : length (p.leave ++ (e ∷ [])) ≡ length p.leave + 1 = length-append p.leave (e ∷ []) in
              let gone : set left i v ≡ spent m left e = rw (is-v, is-i, is-t) in
              record {
                stay = p.stay;
                leave = p.leave ++ (e ∷ []);
                keeps = p.keeps;
                total = omega (arith, p.total, more-long);
                to_stay = p.to_stay ∙ ap (λ (l : List ℕ). p.stay ++ l) stays_out ∙ rw gone;
                to_leave = p.to_leave ∙ ap (λ (l : List ℕ). p.leave ++ l) leaves ∙ sym (append_snoc p.leave e _) ∙ rw gone;
                entries_now = p.entries_now;
                leavers_now = ap (λ (l : List ℕ). set l (k - kept) e) p.leavers_now ∙ rw (← at) (put_next p.leave blank e (length p.leave) refl (omega (arith, leave_few, p.total)) ∙ rw more-long);
              }

        -- the entry stays
        pub next_stays : b ≡ false → Parting m sets entries blank (k + 1) (kept + 1) left (set now kept (get_or now k 0)) leavers
        unfolding staying leaving
        next_stays not-asked =
            let e = get_or now k 0 in
            let stays : staying m left (drop k entries) ≡ e ∷ staying m left (drop (k + 1) entries) = rw (next, asked, not-asked) in
            let leaves-not : leaving m left (drop k entries) ≡ leaving m left (drop (k + 1) entries) = rw (next, asked, not-asked) in
            record {
              stay = p.stay ++ (e ∷ []);
              leave = p.leave;
              keeps = length-append p.stay (e ∷ []) ∙ ap (λ n. n + 1) p.keeps;
              total = omega (arith, p.total);
              to_stay = p.to_stay ∙ ap (λ (l : List ℕ). p.stay ++ l) stays ∙ sym (append_snoc p.stay e _);
              to_leave = p.to_leave ∙ ap (λ (l : List ℕ). p.leave ++ l) leaves-not;
              entries_now = ap (λ (l : List ℕ). set l kept e) p.entries_now ∙ put_next p.stay entries e kept p.keeps (omega (arith, p.total));
              leavers_now = p.leavers_now;
            }

    -- all are parted
    module _ (done : length entries ≤ k) where
      none_left : drop k entries ≡ []
      none_left = drop_of_length-le entries {i = k} done

      the_staying : staying m sets entries ≡ p.stay
      unfolding staying
      the_staying = p.to_stay ∙ rw none_left (append-nil p.stay)

      the_leaving : leaving m sets entries ≡ p.leave
      unfolding leaving
      the_leaving = p.to_leave ∙ rw none_left (append-nil p.leave)

      pub all_parted : (kept ≡ length (staying m sets entries)) × (take (length (leaving m sets entries)) leavers ≡ leaving m sets entries) × (now ≡ staying m sets entries ++ drop kept entries)
      all_parted = (
        sym p.keeps ∙ ap length (sym the_staying),
        rw (the_leaving, p.leavers_now) (take_at p.leave _ (length p.leave) refl),
        p.entries_now ∙ rw the_staying,
      )

-- those that leave are put behind those that stay
module _ (m : ℕ) (sets entries : List ℕ) (kept : ℕ) (is_kept : kept ≡ length (staying m sets entries)) (now : List ℕ) (is : now ≡ staying m sets entries ++ drop kept entries) where
  all_together : kept + length (leaving m sets entries) ≡ length entries
  all_together = ap (λ n. n + length (leaving m sets entries)) is_kept ∙ both_long m sets entries

  now_long : length now ≡ length entries
  now_long = ap length is ∙ length-append (staying m sets entries) _ ∙ rw (length-drop, ← is_kept) (omega (arith, all_together))

  gone_are : length now - kept ≡ length (leaving m sets entries)
  gone_are = omega (arith, all_together, now_long)

  pub gone_fit : (leavers : List ℕ) → length (leaving m sets entries) ≤ m → length leavers ≡ m → length now - kept ≤ length leavers
  gone_fit leavers few full = omega (arith, gone_are)

  pub joined : (leavers last : List ℕ) → take (length (leaving m sets entries)) leavers ≡ leaving m sets entries → last ≡ take (length now - kept) leavers
      → put_mid kept (length now - kept) now last ≡ staying m sets entries ++ leaving m sets entries
  joined leavers last gone put =
      let front : take kept now ≡ staying m sets entries = ap (take kept) is ∙ take_at (staying m sets entries) (drop kept entries) kept (sym is_kept) in
      let none : drop (length now - kept) (drop kept now) ≡ [] = drop_of_length-le (drop kept now) {i = length now - kept} (le_of_eq (length-drop kept now)) in
      rw (front, none, append-nil) (ap (λ (l : List ℕ). staying m sets entries ++ l) (put ∙ rw gone_are gone))

-- the cells of those that leave go out, one by one
module _ (m w : ℕ) (pool s : List ℕ) where
  pub one_out : (j : ℕ) (start now last : List ℕ) (x t : ℕ) → j < length s → forwarded m w pool s start ≡ forwarded m w pool (drop j s) now
      → x ≡ cell_of m (get_or s j 0) → t ≡ target_of m (get_or s j 0) → last ≡ stored w now t (cell_at w pool x)
      → forwarded m w pool s start ≡ forwarded m w pool (drop (j + 1) s) last
  unfolding forwarded
  one_out j start now last x t h before is_x is-t wrote = before ∙ rw (add-one, drop-cons s j 0 h, wrote, is_x, is-t)

  pub all_out : (j : ℕ) (start now : List ℕ) → length s ≤ j → forwarded m w pool s start ≡ forwarded m w pool (drop j s) now → now ≡ forwarded m w pool s start
  unfolding forwarded
  all_out j start now h before = let none : drop j s ≡ [] = drop_of_length-le s {i = j} h in sym (before ∙ rw none)
