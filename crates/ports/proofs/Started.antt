-- A fresh state of 1 to m ports: offsets 0, the slot due and the operators that the caller named, and operator 0 at or above n.
use Rattle.std.proofs.Common.{◌≡◌, ℕ, ◌<◌, ◌≤◌, false, eqb, ltb, List, get_or, ◌∙◌, arith, ltb-true, le-ltb, lt-ltb, eq-eqb, ne_eqb, eqb-true}
use native.Mathlib.Decide.{ℕ_discrete}
use borrow.Author.Tests.{eqb-false}
use Rattle.laws.specs.Sets.{has}
use Rattle.laws.proofs.Steps.{some_true, true_some}
use Rattle.laws.proofs.Tests.{refuted}
use Rattle.laws.proofs.Members.{gathered-has, has-gathered}
use Rattle.ports.specs.Owners.{operator, owners_of, no_operator}
use Rattle.ports.specs.Ready.{at_first, fresh}

module _ (operators : List ℕ) where
  not_one : (n p : ℕ) → has (owners_of operators n) p ≡ false → operator (owners_of operators n) p ≡ 0
  not_one n p e = omega (arith, eqb-false (operator (owners_of operators n) p) 1 e)

  -- the operators are those named
  pub owner_is : (n p : ℕ) → p < n → get_or operators p 0 ≤ 1 → operator (owners_of operators n) p ≡ get_or operators p 0
  owner_is n p p< few = go (ℕ_discrete (get_or operators p 0) 1)
    where
      at : has (owners_of operators n) p ≡ eqb (get_or operators p 0) 1
      at = has-gathered (λ p. eqb (get_or operators p 0) 1) n p p<

      go : Dec (get_or operators p 0 ≡ 1) → operator (owners_of operators n) p ≡ get_or operators p 0
      go (yes e) = omega (arith, eqb-true (operator (owners_of operators n) p) 1 (at ∙ eq-eqb _ 1 e))
      go (no e) = omega (arith, not_one n p (at ∙ ne_eqb _ 1 e))

  pub owner_past : (n p : ℕ) → n ≤ p → operator (owners_of operators n) p ≡ 0
  owner_past n p past = not_one n p (refuted _ (λ e. omega (arith, (gathered-has (λ p. eqb (get_or operators p 0) 1) n p e).0)))

  module _ (m n due : ℕ) (some : 1 ≤ n) (most : n ≤ m) where
    pub fresh_is : ((p : ℕ) → p < n → get_or operators p 0 ≤ 1) → fresh m n due operators ≡ record { number = 0; fields = at_first n due (owners_of operators n) }
    unfolding fresh
    fresh_is named = rw (
      le-ltb n 1 some,
      le-ltb m n most,
      refuted (no_operator operators n) (λ e.
          let (p, p<, two) = some_true (λ p. ltb 1 (get_or operators p 0)) n e in
          omega (arith, named p p<, ltb-true 1 (get_or operators p 0) two)),
    )

    -- 15 for an operator number above 1 on a port below n, and a state of zeros
    pub other_operator : (p : ℕ) → p < n → 1 < get_or operators p 0 → fresh m n due operators ≡ record { number = 15; fields = at_first 0 0 0 }
    unfolding fresh
    other_operator p p< two = rw (le-ltb n 1 some, le-ltb m n most, true_some _ n p p< (lt-ltb 1 _ two))
