-- Sound bodies, joined one after the other, are the parts of a trace, and each is a part of its own.
use mathlib.Core.Path.{◌≡◌, refl, sym, ap, ◌∙◌}
use mathlib.Core.Logic.{⊎_elim}
use mathlib.Core.Bool.{true}
use mathlib.Core.List.{List, ◌++◌}
use Prim.Native.Nat.{ℕ, zero, suc, ◌+◌, ◌≤◌, ◌<◌}
use native.Mathlib.Nat.{le_refl, le_of_eq, le_of_suc-le-suc, eq-or-lt_of_le, not-suc-le-zero}
use native.Mathlib.Omega.{arith}
use lib.ListN.{length, get_or, take, length-append}
use lib.Seq.{take_all, take_at, drop_at}
use borrow.Author.Tests.{eq-eqb}
use Rattle.laws.specs.Steps.{steps}
use Rattle.laws.specs.Parts.{part, parts}
use Rattle.laws.proofs.Every.{each_every}
use Rattle.laws.proofs.Parts.{part_own}
use Rattle.laws.proofs.Tests.{every}
use Rattle.trace_parts.specs.Layout.{body_len}
use Rattle.trace_parts.specs.Body.{body_sound}
use Rattle.trace_parts.proofs.BodyLaws.{sound}
use Rattle.trace_writer.specs.Writer.{start_of, joined, counts_fit, joined_sound, parts_sound}
use Rattle.trace_writer.proofs.Starts.{start_zero, start_suc}

start_before : (n : ℕ) (slots : List ℕ) (k j : ℕ) → k ≤ j → start_of n slots k ≤ start_of n slots j
start_before n slots k zero h = let none : k ≡ 0 = omega arith in rw none (le_refl _)
start_before n slots k (suc j) h = ⊎_elim
    (λ e. rw e (le_refl _))
    (λ (l : k < suc j). rw start_suc (omega (arith, start_before n slots k j (le_of_suc-le-suc l))))
    (eq-or-lt_of_le h)

module _ (m n : ℕ) (slots : List ℕ) (body : ℕ → List ℕ) (each : (k : ℕ) → k < length slots → body_sound m n (get_or slots k 0) (body k) ≡ true) where
  long : (k : ℕ) → k < length slots → length (body k) ≡ body_len n (get_or slots k 0)
  long k l = (sound m n _ (body k) (each k l)).whole.long

  start_is : (j : ℕ) → j ≤ length slots → length (parts body j) ≡ start_of n slots j
  unfolding steps
  start_is zero h = rw start_zero
  start_is (suc j) h = length-append (parts body j) (body j) ∙ rw (start_is j (omega arith), long j h, start_suc)

  part_is : (j k : ℕ) → j ≤ length slots → k < j → joined n slots (parts body j) k ≡ body k
  unfolding steps
  part_is zero k h l = absurd (not-suc-le-zero l)
  part_is (suc j) k h l =
      let before = parts body j in
      let start = start_is j (omega arith) in
      ⊎_elim
      (λ e. rw e (ap (take (body_len n (get_or slots j 0))) (drop_at before (body j) (start_of n slots j) start) ∙ take_all _ (body j) (le_of_eq (long j h))))
      (λ i.
      let within : start_of n slots k + body_len n (get_or slots k 0) ≤ length before = rw (start, ← start_suc n slots k) (start_before n slots (suc k) j i) in
      sym (part_own _ _ (length before) (before ++ body j) within)
      ∙ ap (part (start_of n slots k) (body_len n (get_or slots k 0))) (take_at before (body j) (length before) refl)
      ∙ part_is j k (omega arith) i)
      (eq-or-lt_of_le (le_of_suc-le-suc l))

  abbrev bodies : List ℕ
  bodies = parts body (length slots)

  pub joined_is : (k : ℕ) → k < length slots → joined n slots bodies k ≡ body k
  joined_is k l = part_is (length slots) k (le_refl _) l

  pub joins : (firsts : List ℕ) → counts_fit m n firsts slots ≡ true → parts_sound m n firsts slots bodies ≡ true
  unfolding parts_sound joined_sound
  joins firsts fits =
      every fits
      (every (eq-eqb _ _ (sym (start_is (length slots) (le_refl _)))) (each_every (joined_sound m n slots bodies) (length slots) (λ k l. rw (joined_is k l) (each k l))))
