-- Rules 1 and 2: what counts of the hosts' fields.
use mathlib.Core.Path.{◌≡◌, refl, sym, ap, ◌∙◌}
use mathlib.Core.Logic.{◌↔◌}
use mathlib.Core.Bool.{Bool, true, false, cond, true≢false}
use mathlib.Core.List.{List}
use Prim.Native.Nat.{ℕ, ◌<◌}
use native.Mathlib.Decide.{ℕ_discrete}
use lib.ListN.{length, get_or}
use borrow.Author.Tests.{lt-ltb, ltb-true}
use Rattle.laws.specs.Sets.{has, asks}
use Rattle.laws.proofs.Tests.{both, same}
use Rattle.laws.proofs.Tallies.{tally_few}
use Rattle.laws.proofs.Members.{has_none, asks-row, tabled-asks}
use Rattle.laws.proofs.Rows.{row-tabled}
use Rattle.ports.specs.Owners.{operator, among}
use Rattle.ports.proofs.Owners.{among-has, has-among}
use Rattle.hearing.specs.Heard.{clears, present, counted}

module _ (n heard : ℕ) (ben : List ℕ) where
  -- Rule 2: an initiator is present if it is heard, and any two heard hosts that clear its bit are one.
  pub present_exactly : (i : ℕ) → (present n heard ben i ≡ true)
      ↔ ((has heard i ≡ true) × ((g h : ℕ) → g < n → h < n → clears heard ben i g ≡ true → clears heard ben i h ≡ true → g ≡ h))
  unfolding present
  present_exactly i = (
    λ e. let (a, b) = both (has heard i) _ e in (a, (tally_few (clears heard ben i) n).0 (ltb-true _ 2 b)),
    λ (a, alone). rw (a, lt-ltb _ 2 ((tally_few (clears heard ben i) n).1 alone)),
  )

  -- A single host, whatever it votes, disables nobody.
  pub one_disables_nobody : (g i : ℕ) → ((h : ℕ) → h < n → (h ≡ g → ⊥) → clears heard ben i h ≡ false) → present n heard ben i ≡ has heard i
  one_disables_nobody g i others = same _ _ (λ e. ((present_exactly i).0 e).0) (λ e. (present_exactly i).1 (e, λ x y x< y< p q. only x x< p ∙ sym (only y y< q)))
    where
      only : (h : ℕ) → h < n → clears heard ben i h ≡ true → h ≡ g
      only h h< e = go (ℕ_discrete h g)
        where
          go : Dec (h ≡ g) → h ≡ g
          go (yes s) = s
          go (no s) = absurd (true≢false (sym e ∙ others h h< s))

-- what counts of a field is what a present initiator sent, towards its own operator's ports
module _ (n owners heard : ℕ) (ben rows : List ℕ) (i t : ℕ) where
  pub counted-asks : asks (counted n owners heard ben rows) i t ≡ true
      → (present n (among owners i heard) ben i ≡ true) × (asks rows i t ≡ true) × (operator owners i ≡ operator owners t)
  unfolding counted
  counted-asks e = sent (present n (among owners i heard) ben i) (tabled-asks (length rows) _ n i t e).1
    where
      sent : (b : Bool) → has (cond b (among owners i (get_or rows i 0)) 0) t ≡ true → (b ≡ true) × (asks rows i t ≡ true) × (operator owners i ≡ operator owners t)
      sent true e = let (a, o) = among-has owners i (get_or rows i 0) t e in (refl, a, o)
      sent false e = absurd (true≢false (sym e ∙ has_none t))

  pub asks-counted : i < n → present n (among owners i heard) ben i ≡ true → asks rows i t ≡ true → operator owners i ≡ operator owners t
      → asks (counted n owners heard ben rows) i t ≡ true
  unfolding counted
  asks-counted i< here e o =
      let row = row-tabled (length rows) (λ i. cond (present n (among owners i heard) ben i) (among owners i (get_or rows i 0)) 0) n i i< (asks-row rows i t e) in
      ap (λ s. has s t) row ∙ rw here (has-among owners i (get_or rows i 0) t o ∙ e)
