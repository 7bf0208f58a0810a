-- The ends of a call that fills something lent: it has another length; the call declines; it is done.
use mathlib.Core.Path.{◌≡◌, refl, sym, ◌∙◌}
use mathlib.Core.Bool.{Bool, true, false}
use mathlib.Core.List.{List, []}
use Prim.Native.Nat.{ℕ}
use borrow.Author.Tests.{ne_eqb}
use Rattle.std.specs.Prelude.{Result, Ok, Err, MatchResult, IsOkAnd}
use Rattle.refusals.specs.Numbers.{number, answer_of}
use Rattle.refusals.specs.declared.Refusal.{Refusal}
use Rattle.refusals.proofs.Unique.{not_done}
use Rattle.lent.specs.Filled.{fitted_number, filled_after}

module _ (fits : Bool) (number : ℕ) (filled lent : List ℕ) where
  -- the promise of a call that answers so and leaves that
  abbrev pub Ends : ℕ → List ℕ → Type 0
  Ends answer left = (answer ≡ fitted_number fits number) × (left ≡ filled_after (fitted_number fits number) filled lent)

  pub unfit : fits ≡ false → Ends 8 lent
  unfolding fitted_number filled_after
  unfit e = rw e (refl, refl)

  pub declines : fits ≡ true → (number ≡ 0 → ⊥) → Ends number lent
  unfolding fitted_number filled_after
  declines e some = rw (e, ne_eqb number 0 some) (refl, refl)

  pub fills : fits ≡ true → number ≡ 0 → (left : List ℕ) → left ≡ filled → Ends 0 left
  unfolding fitted_number filled_after
  fills e none left is = rw (e, none) (refl, is)

-- a call fills in the words of what it reads, or tells why it declines
module _ {A : Type 0} (zeros : A) (words : A → List ℕ) (fits : Bool) (lent : List ℕ) where
  pub told : (read : Result A Refusal) (given : Result (List ℕ) Refusal) → MatchResult read (λ x. IsOkAnd given (λ y. y ≡ words x)) (λ why. given ≡ Err why)
      → (answer : ℕ) (left : List ℕ) → answer ≡ fitted_number fits (answer_of [] given).number → left ≡ filled_after answer (answer_of [] given).fields lent
      → Ends fits (answer_of zeros read).number (words (answer_of zeros read).fields) lent answer left
  unfolding fitted_number filled_after
  told (Ok x) (Ok y) is answer left e f = (e, (rw (is, e) at f))
  told (Ok x) (Err why) is answer left e f = absurd is
  told (Err why) given is answer left e f = kept fits (rw is at e) (rw is at f)
    where
      kept : (b : Bool) → answer ≡ fitted_number b (number why) → left ≡ filled_after answer [] lent → Ends b (number why) (words zeros) lent answer left
      kept true e f = (e, (rw (e, not_done why) at f) ∙ sym (rw (not_done why) refl))
      kept false e f = (e, (rw e at f))
