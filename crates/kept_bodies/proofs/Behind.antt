-- Bytes after the last body are dropped: whatever stands behind a file that has all its bodies, the same is salvaged.
use mathlib.Core.Path.{◌≡◌, sym, ap, ◌∙◌}
use mathlib.Core.Logic.{⊎_elim}
use mathlib.Core.Bool.{true}
use mathlib.Core.List.{List, [], ◌∷◌, ◌++◌}
use Prim.Native.Nat.{ℕ, zero, suc, ◌≤◌, ◌<◌}
use native.Mathlib.Nat.{le_refl, eq-or-lt_of_le, le_of_suc-le-suc}
use native.Mathlib.Omega.{arith}
use lib.ListN.{length, take}
use lib.Seq.{take-append_seam}
use Rattle.laws.specs.Parts.{part}
use Rattle.laws.specs.Bytes.{Bytes, number}
use Rattle.laws.proofs.Parts.{part_own}
use Rattle.trace_parts.specs.Layout.{body_len}
use Rattle.trace_parts.specs.Contents.{ports_of, count_of, entry_of, body_end, contents_end, due}
use Rattle.trace_parts.proofs.ContentsLaws.{Contents}
use Rattle.trace_parts.proofs.ContentsOwn.{ports_own, entry_own}
use Rattle.traces.specs.Trace.{body_at, sound_at, trace_sound}
use Rattle.traces.proofs.TraceLaws.{trace}
use Rattle.salvages.specs.Salvage.{salvaged, of_sound}
use Rattle.salvages.proofs.Chosen.{same_parts}
use Rattle.kept_bodies.proofs.Salvages.{comes_back}

-- the bodies follow each other
module _ (m : ℕ) (s : List ℕ) (c : Contents m s) where
  due-next : (k : ℕ) → k < count_of s → due s k ≤ due s (suc k)
  unfolding due
  due-next k l = omega (arith, (c.entries k l).follows)

  due_rises : (k j : ℕ) → k ≤ j → j ≤ count_of s → due s k ≤ due s j
  due_rises k zero h l = let none : k ≡ 0 = omega arith in rw none (le_refl _)
  due_rises k (suc j) h l = ⊎_elim (λ e. rw e (le_refl _)) (λ i. omega (arith, due_rises k j (le_of_suc-le-suc i) (omega arith), due-next j l)) (eq-or-lt_of_le h)

module _ (m : ℕ) (s more : List ℕ) (c : Contents m s) (all : due s (count_of s) ≤ length s) where
  abbrev file : List ℕ
  file = s ++ more

  front : take (length s) file ≡ s
  front = take-append_seam s more

  -- the contents of s are those of the file
  count_same : count_of file ≡ count_of s
  unfolding count_of
  count_same = ap number (sym (part_own 1 2 (length s) file (omega (arith, c.long)))) ∙ ap (λ (x : List ℕ). number (part 1 2 x)) front

  within : contents_end file ≤ length s
  within = rw count_same c.long

  ports_same : ports_of file ≡ ports_of s
  ports_same = sym (ports_own file (length s) within) ∙ ap ports_of front

  module _ (k : ℕ) (l : k < count_of s) where
    entry_same : entry_of file k ≡ entry_of s k
    entry_same = sym (entry_own file (length s) within k (rw count_same l)) ∙ ap (λ (f : List ℕ). entry_of f k) front

    there : body_end s k ≤ length s
    unfolding due
    there = omega (arith, due_rises m s c (suc k) (count_of s) l (le_refl _))

    body_same : body_at file k ≡ body_at s k
    unfolding body_at
    body_same =
        rw (entry_same, ports_same)
        (sym (part_own (entry_of s k).offset (body_len (ports_of s) (entry_of s k).slots) (length s) file there)
        ∙ ap (part (entry_of s k).offset (body_len (ports_of s) (entry_of s k).slots)) front)

    sound_same : sound_at m file k ≡ sound_at m s k
    unfolding sound_at
    sound_same = rw (ports_same, entry_same, body_same)

  kept_same : (f g : ℕ → List ℕ) → ((k : ℕ) → k < count_of s → f k ≡ g k) → of_sound m file f (count_of s) ≡ of_sound m s g (count_of s)
  kept_same f g e = same_parts _ _ (count_of s) (λ k l. rw (sound_same k l, e k l))

  pub behind_dropped : salvaged m file ≡ salvaged m s
  unfolding salvaged
  behind_dropped =
      rw (count_same, ports_same, kept_same (λ k. (entry_of file k).first ∷ []) (λ k. (entry_of s k).first ∷ []) (λ k l. rw (entry_same k l)), kept_same (λ k. (entry_of file k).slots ∷ []) (λ k. (entry_of s k).slots ∷ []) (λ k l. rw (entry_same k l)), kept_same (body_at file) (body_at s) body_same)

-- a sound trace comes back without them
pub trace_behind : (m : ℕ) (s more : List ℕ) → Bytes s → trace_sound m s ≡ true → salvaged m (s ++ more) ≡ s
trace_behind m s more bytes e =
    let t = trace m s e in
    behind_dropped m s more t.contents (omega (arith, t.ends)) ∙ comes_back m s bytes e
