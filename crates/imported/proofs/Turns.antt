-- The records of a captured slot: there is one, and the first of a host gives its frame.
use mathlib.Core.Path.{◌≡◌, refl, sym, ap, ◌∙◌}
use mathlib.Core.Logic.{◌≢◌, ⊎_elim}
use mathlib.Core.Bool.{true, false, or-true}
use mathlib.Core.List.{List, [], ◌∷◌, ◌++◌}
use Prim.Native.Nat.{ℕ, zero, suc, ◌≤◌, ◌<◌}
use native.Mathlib.Nat.{le_of_suc-le-suc, eq-or-lt_of_le, not-suc-le-zero}
use native.Mathlib.Omega.{arith}
use lib.Dec.{eqb}
use lib.ListN.{length}
use borrow.Author.Tests.{eqb-true, eqb-false, eq-eqb, ne_eqb}
use Rattle.laws.specs.Steps.{steps}
use Rattle.laws.proofs.Tests.{arms}
use Rattle.frames.specs.Part.{frame_len}
use Rattle.captures.specs.Capture.{record_len, record_at, frame_of}
use Rattle.imports.specs.Cut.{Record, frame_for}
use Rattle.imports.proofs.Blocks.{heard_in, heard-more, frame_more, framed_none, framed_more}
use Rattle.imports.proofs.Hosts.{frame_size}
use Rattle.imported.specs.Records.{slot_of, slot_at, host_at, turn, slots_of, of_slot}
use Rattle.imported.proofs.Runs.{AllOf}

-- of records of one slot, the last, and those before it
last_of : (x : ℕ) (rs : List Record) (r : Record) → AllOf x (rs ++ (r ∷ [])) → slot_of r ≡ x
unfolding AllOf
last_of x [] r a = a.0
last_of x (q ∷ rs) r a = last_of x rs r a.1

front_of : (x : ℕ) (rs : List Record) (r : Record) → AllOf x (rs ++ (r ∷ [])) → AllOf x rs
unfolding AllOf
front_of x [] r a = tt
front_of x (q ∷ rs) r a = (a.0, front_of x rs r a.1)

module _ (n : ℕ) (s : List ℕ) where
  -- every place has a record
  turn_most : (i : ℕ) → turn n s i ≤ slots_of n s i
  unfolding turn slots_of
  turn_most zero = omega arith
  turn_most (suc i) = arms (λ x. x ≤ suc (turn n s i)) (eqb (slot_at n s (suc i)) (slot_at n s i)) _ _ (λ _. omega arith) (λ _. omega arith)

  pub has_record : (i q : ℕ) → q < slots_of n s i → (j : ℕ) × (j < i) × (turn n s j ≡ q)
  unfolding slots_of
  has_record zero q l = absurd (not-suc-le-zero l)
  has_record (suc i) q l = ⊎_elim
      (λ e. (i, omega arith, sym e))
      (λ b. let (j, h, e) = has_record i q (omega (arith, turn_most i)) in (j, omega arith, e))
      (eq-or-lt_of_le (le_of_suc-le-suc l))

  module _ (q : ℕ) where
    abbrev upto : ℕ → List Record
    upto = of_slot n s q

    -- what holds of no record yet, and of one more if it is of the slot
    pub grown : (P : ℕ → List Record → Type 0) → ((i : ℕ) → turn n s i ≡ q → P i (upto i) → P (suc i) (upto i ++ (record_at n s i ∷ [])))
        → ((i : ℕ) → (turn n s i ≢ q) → P i (upto i) → P (suc i) (upto i)) → P 0 [] → (i : ℕ) → P i (upto i)
    unfolding of_slot steps
    grown P more other none zero = none
    grown P more other none (suc i) = arms (P (suc i)) (eqb (turn n s i) q) (upto i ++ (record_at n s i ∷ [])) (upto i)
        (λ e. more i (eqb-true (turn n s i) q e) (grown P more other none i)) (λ e. other i (eqb-false (turn n s i) q e) (grown P more other none i))

    -- the slot's number is that of each of its records
    pub number_of : (x i : ℕ) → AllOf x (upto i) → (j : ℕ) → j < i → turn n s j ≡ q → slot_at n s j ≡ x
    number_of x i = grown (λ i rs. AllOf x rs → (j : ℕ) → j < i → turn n s j ≡ q → slot_at n s j ≡ x)
        (λ i e before a j l t. ⊎_elim (λ same. rw same (last_of x (upto i) (record_at n s i) a)) (λ b. before (front_of x (upto i) (record_at n s i) a) j b t) (eq-or-lt_of_le (le_of_suc-le-suc l)))
        (λ i d before a j l t. ⊎_elim (λ same. absurd (d (rw (← same) t))) (λ b. before a j b t) (eq-or-lt_of_le (le_of_suc-le-suc l)))
        (λ a j l t. absurd (not-suc-le-zero l)) i

    module _ (h : ℕ) where
      pub heard_none : (i : ℕ) → ((j : ℕ) → j < i → turn n s j ≡ q → host_at n s j ≢ h) → heard_in (upto i) h ≡ false
      unfolding heard_in
      heard_none = grown (λ i rs. ((j : ℕ) → j < i → turn n s j ≡ q → host_at n s j ≢ h) → heard_in rs h ≡ false)
          (λ i e before none. heard-more (upto i) (record_at n s i) h ∙ rw (before (λ j l. none j (omega arith)), ne_eqb _ _ (none i (omega arith) e)))
          (λ i d before none. before (λ j l. none j (omega arith)))
          (λ none. refl)

      pub heard-some : (j : ℕ) → turn n s j ≡ q → host_at n s j ≡ h → (i : ℕ) → j < i → heard_in (upto i) h ≡ true
      heard-some j t e = grown (λ i rs. j < i → heard_in rs h ≡ true)
          (λ i _ before l. heard-more (upto i) (record_at n s i) h ∙ ⊎_elim (λ same. rw (eq-eqb (host_at n s i) h (ap (host_at n s) (sym same) ∙ e)) (or-true (heard_in (upto i) h))) (λ b. rw (before b)) (eq-or-lt_of_le (le_of_suc-le-suc l)))
          (λ i d before l. ⊎_elim (λ same. absurd (d (rw (← same) t))) (λ b. before b) (eq-or-lt_of_le (le_of_suc-le-suc l)))
          (λ l. absurd (not-suc-le-zero l))

      pub first_frame : (j : ℕ) → turn n s j ≡ q → host_at n s j ≡ h → ((d : ℕ) → d < j → turn n s d ≡ q → host_at n s d ≢ h) → (i : ℕ) → j < i
          → frame_for n (upto i) h ≡ frame_of n (record_at n s j)
      first_frame j t e none = grown (λ i rs. j < i → frame_for n rs h ≡ frame_of n (record_at n s j))
          (λ i _ before l. frame_more n (upto i) (record_at n s i) h ∙ ⊎_elim
          (λ same. rw (← same, heard_none j none, eq-eqb _ _ e))
          (λ b. rw (heard-some j t e i b) (before b))
          (eq-or-lt_of_le (le_of_suc-le-suc l)))
          (λ i d before l. ⊎_elim (λ same. absurd (d (rw (← same) t))) (λ b. before b) (eq-or-lt_of_le (le_of_suc-le-suc l)))
          (λ l. absurd (not-suc-le-zero l))

    -- its frames are whole, if its records are
    pub framed : (i : ℕ) → ((j : ℕ) → j < i → length (record_at n s j) ≡ record_len n) → (h : ℕ) → length (frame_for n (upto i) h) ≡ frame_len n
    framed = grown (λ i rs. ((j : ℕ) → j < i → length (record_at n s j) ≡ record_len n) → (h : ℕ) → length (frame_for n rs h) ≡ frame_len n)
        (λ i _ before long. framed_more n (upto i) (record_at n s i) (frame_size n (record_at n s i) (long i (omega arith))) (before (λ j l. long j (omega arith))))
        (λ i _ before long. before (λ j l. long j (omega arith)))
        (λ long. framed_none n)
