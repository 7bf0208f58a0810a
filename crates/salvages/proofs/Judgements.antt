-- What is known of the first k bodies of a file once they are judged, one after the other.
use mathlib.Core.Path.{◌≡◌, refl, sym, ap, ◌∙◌}
use mathlib.Core.Bool.{Bool, true, false, cond}
use mathlib.Core.List.{List, [], ◌∷◌, ◌++◌, append-nil, append_assoc}
use Prim.Native.Nat.{ℕ, zero, suc, ◌+◌, ◌≤◌, ◌<◌}
use native.Mathlib.Numerals.{add-one}
use native.Mathlib.Omega.{arith}
use lib.ListN.{length, get_or, take, drop, set, replicate, length-set, length-replicate}
use lib.Seq.{drop-cons, set_at, take-suc-set}
use borrow.Author.Tests.{lt-leb, lt-ltb}
use Rattle.std.proofs.lemmas.Grind.{drop_more_same}
use Rattle.std.proofs.lemmas.List.{get_or-set_same, get_or-set_other, drop-set-lt}
use Rattle.laws.proofs.Steps.{upto}
use Rattle.laws.specs.Steps.{steps}
use Rattle.trace_parts.specs.Layout.{most_bodies}
use Rattle.trace_parts.specs.Contents.{entry_of}
use Rattle.traces.specs.Trace.{sound_at}
use Rattle.trace_writer.specs.Parts.{listed}
use Rattle.trace_writer.proofs.Places.{length_listed}
use Rattle.body_fates.specs.declared.judging.Judged.{Judged}
use Rattle.body_fates.specs.declared.body.Fate.{Fate}
use Rattle.body_fates.specs.declared.body.Fate.TheVariants.{Kept}
use Rattle.body_fates.specs.Judged.{none_judged, is_full, noted, entered, judge, fate_of}
use Rattle.body_fates.proofs.Sound.{none_told}
use Rattle.salvages.specs.Whole.{judge_at, judged_of}
use Rattle.salvages.specs.Salvage.{fate_at, kept_firsts, kept_slots}
use Rattle.salvages.proofs.KeptSound.{kept_exactly}

pub record Known (m : ℕ) (s : List ℕ) (k : ℕ) (j : Judged) : Type 0 where
  pub bodies_are : j.bodies ≡ k
  pub fates_are : (i : ℕ) → i < k → get_or j.fates i Kept ≡ fate_at m s i
  pub fates_long : length j.fates ≡ most_bodies
  pub fates_behind : drop k j.fates ≡ drop k (replicate most_bodies Kept)
  pub some : j.kept ≤ k
  pub firsts_are : take j.kept j.firsts ≡ kept_firsts m s k
  pub slots_are : take j.kept j.slots ≡ kept_slots m s k
  pub firsts_long : length j.firsts ≡ most_bodies
  pub slots_long : length j.slots ≡ most_bodies

-- one fate more in a table
pub told_more : (f : ℕ → ℕ) (k : ℕ) (before fates : List ℕ) → k < length before → fates ≡ listed f k ++ drop k before
    → set fates k (f k) ≡ listed f (k + 1) ++ drop (k + 1) before
unfolding steps
told_more f k before fates h e =
    rw (e, drop-cons before k 0 h, set_at (listed f k) _ (drop (suc k) before) (f k) k (length_listed f k), add-one k)
    (sym (append_assoc (listed f k) (f k ∷ []) (drop (suc k) before)))

-- one row more, behind those kept
row_more : (x c : ℕ) (l front : List ℕ) → c < length l → take c l ≡ front → take (c + 1) (set l c x) ≡ front ++ (x ∷ [])
row_more x c l front h e = rw (add-one c, take-suc-set l c x h, e)

module _ (m : ℕ) (s : List ℕ) where
  module _ (k : ℕ) (room : k < most_bodies) (j : Judged) (known : Known m s k j) where
    fates_next : (i : ℕ) → i < suc k → get_or (set j.fates j.bodies (fate_at m s k)) i Kept ≡ fate_at m s i
    fates_next =
        rw known.bodies_are
        (upto (λ i. get_or (set j.fates k (fate_at m s k)) i Kept ≡ fate_at m s i) k
        (λ i l. get_or-set_other j.fates k i (fate_at m s k) Kept (λ e. absurd (omega (arith, e, l))) ∙ known.fates_are i l)
        (get_or-set_same j.fates k (fate_at m s k) Kept (rw known.fates_long room)))

    behind_next : drop (suc k) (set j.fates j.bodies (fate_at m s k)) ≡ drop (suc k) (replicate most_bodies Kept)
    behind_next =
        rw known.bodies_are
        (drop-set-lt (suc k) j.fates k (fate_at m s k) (omega arith)
        ∙ ap (λ (z : ℕ). drop z j.fates) (sym (add-one k))
        ∙ drop_more_same j.fates (replicate most_bodies Kept) k known.fates_behind
        ∙ ap (λ (z : ℕ). drop z (replicate most_bodies Kept)) (add-one k))

    next : (b : Bool) → sound_at m s k ≡ b
        → Known m s (suc k) (cond b (entered (entry_of s k).first (entry_of s k).slots (noted (fate_at m s k) j)) (noted (fate_at m s k) j))
    unfolding steps noted entered
    next true q =
        record {
          bodies_are = rw known.bodies_are (add-one k);
          fates_are = fates_next;
          fates_long = length-set j.fates j.bodies _ ∙ known.fates_long;
          fates_behind = behind_next;
          some = omega (arith, known.some);
          firsts_are = rw q (row_more (entry_of s k).first j.kept j.firsts _ (omega (arith, known.some, known.firsts_long)) known.firsts_are);
          slots_are = rw q (row_more (entry_of s k).slots j.kept j.slots _ (omega (arith, known.some, known.slots_long)) known.slots_are);
          firsts_long = length-set j.firsts j.kept _ ∙ known.firsts_long;
          slots_long = length-set j.slots j.kept _ ∙ known.slots_long;
        }
    next false q =
        record {
          bodies_are = rw known.bodies_are (add-one k);
          fates_are = fates_next;
          fates_long = length-set j.fates j.bodies _ ∙ known.fates_long;
          fates_behind = behind_next;
          some = omega (arith, known.some);
          firsts_are = rw (q, append-nil) known.firsts_are;
          slots_are = rw (q, append-nil) known.slots_are;
          firsts_long = known.firsts_long;
          slots_long = known.slots_long;
        }

    not_full : is_full j ≡ false
    unfolding is_full
    not_full = rw (lt-leb most_bodies j.bodies (omega (arith, known.bodies_are)), lt-leb most_bodies j.kept (omega (arith, known.some)))

    judged_next : Known m s (suc k) (judge_at m s k j)
    unfolding judge_at judge fate_at
    judged_next = rw (not_full, kept_exactly m s k) (next (sound_at m s k) refl)

  pub judged_known : (k : ℕ) → k ≤ most_bodies → Known m s k (judged_of m s k)
  unfolding steps none_judged
  judged_known zero h =
      record {
        bodies_are = refl;
        fates_are = λ i l. absurd (omega arith);
        fates_long = length-replicate {A = Fate} most_bodies Kept;
        fates_behind = none_told;
        some = omega arith;
        firsts_are = refl;
        slots_are = refl;
        firsts_long = length-replicate {A = ℕ} most_bodies 0;
        slots_long = length-replicate {A = ℕ} most_bodies 0;
      }
  judged_known (suc k) h = judged_next k h (judged_of m s k) (judged_known k (omega arith))

-- the fate of each, as it is told
pub fate_told : (m : ℕ) (s : List ℕ) (k : ℕ) (j : Judged) → Known m s k j → k ≤ most_bodies → (i : ℕ) → i < k → fate_of j i ≡ fate_at m s i
unfolding fate_of
fate_told m s k j known few i l = rw (known.bodies_are, lt-ltb i k l, lt-ltb i most_bodies (omega arith)) (known.fates_are i l)
