-- The ends of the call that makes a fresh state in the C form.
use mathlib.Core.Path.{◌≡◌, ap, ◌∙◌}
use mathlib.Core.Bool.{true}
use mathlib.Core.List.{List}
use Prim.Native.Nat.{ℕ}
use lib.ListN.{length}
use borrow.Author.Tests.{eq-eqb, ne_eqb}
use Rattle.refusals.specs.Numbers.{Answer}
use Rattle.lent.proofs.Fills.{unfit, declines, fills}
use Rattle.ports.specs.Ready.{fresh}
use Rattle.ports.specs.declared.state.State.{State}
use Rattle.table_bytes.specs.State.{state_len, state_bytes}
use Rattle.bellacush.specs.Fresh.{fresh_fits, fresh_number, fresh_state}

module _ (m n due : ℕ) (operators state : List ℕ) where
  -- the promise of a call that answers so and leaves that
  abbrev Ends : ℕ → List ℕ → Type 0
  Ends number left = (number ≡ fresh_number m n due operators state) × (left ≡ fresh_state m n due operators state)

  pub wrong_operators : (length operators ≡ m → ⊥) → Ends 8 state
  unfolding fresh_fits
  wrong_operators other = unfit _ _ _ _ (rw (ne_eqb _ _ other))

  pub wrong_state : length operators ≡ m → (length state ≡ state_len → ⊥) → Ends 8 state
  unfolding fresh_fits
  wrong_state one_each other = unfit _ _ _ _ (rw (eq-eqb _ _ one_each, ne_eqb _ _ other))

  module _ (one_each : length operators ≡ m) (nine : length state ≡ state_len) (given : List ℕ) (copy : given ≡ operators) (made : Answer State) (is : made ≡ fresh m n due given) where
    fit : fresh_fits m n due operators state ≡ true
    unfolding fresh_fits
    fit = rw (eq-eqb _ _ one_each, eq-eqb _ _ nine)

    is_fresh : made ≡ fresh m n due operators
    is_fresh = is ∙ ap (fresh m n due) copy

    pub refused : (made.number ≡ 0 → ⊥) → Ends made.number state
    refused some = rw (← is_fresh) (declines _ _ _ _ fit some)

    pub made_so : made.number ≡ 0 → (last : List ℕ) → last ≡ state_bytes made.fields → Ends 0 last
    made_so none last are = rw (← is_fresh) (fills _ _ _ _ fit none last are)
