-- Contents are told by their own bytes: every front of a file that holds them tells the same as the file. So a program can
-- hold them apart from the bodies; and the start that it reads, piece by piece, tells whether the file has any.
use mathlib.Core.Path.{◌≡◌, refl, sym, ap, ◌∙◌}
use mathlib.Core.Bool.{Bool, true, false, ◌&&◌, cond, true≢false}
use mathlib.Core.List.{List, []}
use Prim.Native.Nat.{ℕ, zero, suc, ◌+◌, ◌≤◌, ◌<◌}
use native.Mathlib.Omega.{arith}
use lib.Dec.{leb}
use lib.ListN.{length, take, length-take}
use lib.Seq.{take-take}
use borrow.Author.Tests.{le-leb, leb-true}
use Rattle.laws.specs.Bytes.{number, number_at, number_from}
use Rattle.laws.proofs.Every.{every_same}
use Rattle.laws.proofs.Parts.{part_own}
use Rattle.laws.proofs.Tests.{same, refuted}
use Rattle.laws.proofs.Tests as tests
use Rattle.trace_parts.specs.Layout.{most_bodies}
use Rattle.trace_parts.specs.Contents.{ports_of, count_of, entry_at, entry_of, contents_end, due, entry_sound, contents_sound, contents_fit, head_if, contents_head, contents_size, start_read}
use Rattle.trace_parts.proofs.ContentsLaws.{contents, entry_within}

number_own : (w at e : ℕ) (s : List ℕ) → at + w ≤ e → number_at w at (take e s) ≡ number_at w at s
number_own w at e s h = ap number (part_own at w e s h)

-- a front is long enough for what fits it exactly if the file is
long_own : (x e : ℕ) (s : List ℕ) → x ≤ e → leb x (length (take e s)) ≡ leb x (length s)
long_own x e s h =
    let long = length-take e s in
    same _ _ (λ t. le-leb x (length s) (omega (arith, leb-true x (length (take e s)) t))) (λ t. le-leb x _ (omega (arith, leb-true x (length s) t)))

-- their first three bytes tell how many they are
size_own : (s : List ℕ) → contents_size (take 3 s) ≡ contents_size s
unfolding contents_size count_of
size_own s = rw (long_own 3 3 s (omega arith), number_own 2 1 3 s (omega arith))

-- the first e bytes of s, where they hold its contents
module _ (s : List ℕ) (e : ℕ) (h : contents_end s ≤ e) where
  abbrev own : List ℕ
  own = take e s

  pub ports_own : ports_of own ≡ ports_of s
  unfolding ports_of
  ports_own = number_own 1 0 e s (omega arith)

  pub count_own : count_of own ≡ count_of s
  unfolding count_of
  count_own = number_own 2 1 e s (omega (arith, h))

  pub entry_own : (k : ℕ) → k < count_of s → entry_of own k ≡ entry_of s k
  unfolding entry_of
  entry_own k l =
      let there = entry_within k (count_of s) e l h in
      rw (number_own 4 (entry_at k) e s (omega arith), number_own 2 (entry_at k + 4) e s (omega arith), number_own 4 (entry_at k + 6) e s (omega arith))

  due_own : (k : ℕ) → k ≤ count_of s → due own k ≡ due s k
  unfolding due
  due_own zero l = rw count_own
  due_own (suc k) l = rw (entry_own k l, ports_own)

  sound_entry_own : (k : ℕ) → k < count_of s → entry_sound own k ≡ entry_sound s k
  unfolding entry_sound
  sound_entry_own k l = rw (entry_own k l, ports_own, due_own k (omega arith))

  pub contents_own : (m : ℕ) → contents_sound m own ≡ contents_sound m s
  unfolding contents_sound
  contents_own m = rw (count_own, ports_own, long_own (contents_end s) e s h, take-take (contents_end s) e s h, every_same (entry_sound own) (entry_sound s) (count_of s) sound_entry_own)

  pub fit_own : (m len : ℕ) → contents_fit m len own ≡ contents_fit m len s
  unfolding contents_fit
  fit_own m len = rw (contents_own m, count_own, due_own (count_of s) (omega arith))

-- ---- the start that a program reads

-- no bytes hold contents
empty-start : (m : ℕ) → contents_sound m [] ≡ false
unfolding contents_sound count_of number_from
empty-start m = refl

module _ (m : ℕ) (s : List ℕ) where
  counted : contents_sound m s ≡ true → leb 3 (length s) && leb (count_of s) most_bodies ≡ true
  counted e = let c = contents m s e in tests.every (le-leb 3 (length s) (omega (arith, c.long))) (le-leb (count_of s) most_bodies c.count)

  -- it is the contents, where they are sound
  pub start_is : contents_sound m s ≡ true → start_read s ≡ take (contents_end s) s
  unfolding contents_size
  start_is e = rw (size_own s, counted e)

  -- it has sound contents exactly if the file has
  pub start_own : contents_sound m (start_read s) ≡ contents_sound m s
  unfolding contents_size
  start_own = rw (size_own s) (go (leb 3 (length s) && leb (count_of s) most_bodies) refl)
    where
      go : (b : Bool) → leb 3 (length s) && leb (count_of s) most_bodies ≡ b → contents_sound m (take (cond b (contents_end s) 0) s) ≡ contents_sound m s
      go true q = contents_own s (contents_end s) (omega arith) m
      go false q = empty-start m ∙ sym (refuted (contents_sound m s) (λ t. true≢false (sym (counted t) ∙ q)))

  -- and shows their number, ports and body count, or 14 and zeros
  pub start_head : contents_head m (start_read s) ≡ contents_head m s
  start_head = rw start_own (go (contents_sound m s) refl)
    where
      go : (b : Bool) → contents_sound m s ≡ b → head_if b (start_read s) ≡ head_if b s
      go true e = rw (start_is e, ports_own s (contents_end s) (omega arith), count_own s (contents_end s) (omega arith))
      go false e = refl
