-- The ends of the call that finds the sets asked: a wrong length; it declines; it is done.
use mathlib.Core.Path.{◌≡◌, ap, ◌∙◌}
use mathlib.Core.Bool.{true}
use mathlib.Core.List.{List}
use Prim.Native.Nat.{ℕ}
use lib.ListN.{length}
use borrow.Author.Tests.{eq-eqb, ne_eqb}
use Rattle.refusals.specs.Numbers.{Answer}
use Rattle.lent.proofs.Fills.{unfit, declines, fills}
use Rattle.ports.specs.declared.state.State.{State}
use Rattle.table_bytes.specs.State.{state_len, state_in}
use Rattle.table_bytes.specs.Table.{table_len, table_put}
use Rattle.table_bytes.proofs.Fits.{table_filled, state_read}
use Rattle.shelf.specs.Asked.{sets_asked}
use Rattle.collector_calls.specs.Ledger.{asked_fits, asked_of, asked_number, asked_table}

module _ (m : ℕ) (state block table : List ℕ) where
  -- the promise of a call that answers so and leaves that
  abbrev Ends : ℕ → List ℕ → Type 0
  Ends number left = (number ≡ asked_number m state block table) × (left ≡ asked_table m state block table)

  pub wrong_state : (length state ≡ state_len → ⊥) → Ends 8 table
  unfolding asked_fits
  wrong_state other = unfit _ _ _ _ (rw (ne_eqb _ _ other))

  pub wrong_table : length state ≡ state_len → (length table ≡ table_len m → ⊥) → Ends 8 table
  unfolding asked_fits
  wrong_table nine other = unfit _ _ _ _ (rw (eq-eqb _ _ nine, ne_eqb _ _ other))

  module _ (nine : length state ≡ state_len) (long : length table ≡ table_len m) (st : State) (is-st : st ≡ state_in state) (asked : Answer (List ℕ))
      (is : asked ≡ sets_asked m st.ports st.owners block) where
    fit : asked_fits m state block table ≡ true
    unfolding asked_fits
    fit = rw (eq-eqb _ _ nine, eq-eqb _ _ long)

    is_asked : asked ≡ asked_of m state block table
    unfolding asked_of
    is_asked = is ∙ ap (λ (s : State). sets_asked m s.ports s.owners block) (is-st ∙ state_read state nine)

    pub refused : (asked.number ≡ 0 → ⊥) → Ends asked.number table
    refused some = rw (← is_asked) (declines _ _ _ _ fit some)

    pub found : asked.number ≡ 0 → (left : List ℕ) → (left ≡ table_put m asked.fields table) × (length asked.fields ≡ m) → Ends 0 left
    found none left (put, rows) = rw (← is_asked) (fills _ _ _ _ fit none left (put ∙ table_filled m table long asked.fields rows))
