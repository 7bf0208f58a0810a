-- Refusal on frames: what a declined slot call leaves, and which slots are declined with 3 and 4.
use mathlib.Core.Path.{◌≡◌, refl}
use mathlib.Core.Logic.Iff
use mathlib.Core.Logic.{◌⊎◌, inl, inr, ⊎_elim, ◌↔◌}
use Prim.Native.Nat.{ℕ, ◌^◌, ◌≤◌, ◌<◌}
use native.Mathlib.Omega.{arith}
use borrow.Author.Tests.{ne_eqb}
use Rattle.ports.specs.Due.{behind, declined}
use Rattle.ports.specs.declared.state.State.{State}
use Rattle.shelf.specs.Step.{output}
use Rattle.demands.specs.Call as tables
use Rattle.demands.specs.Refusal.{InOrder, Nothing}
use Rattle.demands.specs.SlotCall.{SlotCall, called, number, output_after, on_tables}
use Rattle.demands.proofs.Refusal as at_tables
use Rattle.demands.proofs.SlotCalls.{slot_cases, same_number, first_numbers}

module _ (m : ℕ) (st : State) (c : SlotCall) where
  -- A declined call of any kind leaves the state and every byte of the output as they were, and connects nobody.
  pub declined_does_nothing : (number m st c ≡ 0 → ⊥) → Nothing m st (called m st c) × (output_after m st c ≡ c.out)
  unfolding declined output
  declined_does_nothing ne = (
    slot_cases m st c (λ r. (r.answer.number ≡ 0 → ⊥) → Nothing m st r) (at_tables.declined_does_nothing m st (on_tables m st c))
        (λ x some why e. record { state_kept = refl; no_sets = refl; no_rounds = refl }) ne,
    rw (ne_eqb (number m st c) 0 ne),
  )

  same_three : (number m st c ≡ 3) ↔ (tables.number m st (on_tables m st c) ≡ 3)
  same_three = first_numbers m st c 3 (λ q. omega arith) (λ q. omega arith) (λ q. omega arith)

  same_four : (number m st c ≡ 4) ↔ (tables.number m st (on_tables m st c) ≡ 4)
  same_four = first_numbers m st c 4 (λ q. omega arith) (λ q. omega arith) (λ q. omega arith)

  -- Number 3, exactly: the slot is from 1 to 2147483648 behind the one due.
  pub stale : (number m st c ≡ 3) ↔ (InOrder m st × (1 ≤ behind st c.slot) × (behind st c.slot ≤ 2 ^ 31))
  stale = Iff.trans same_three (at_tables.stale m st (on_tables m st c))

  -- Number 4, exactly: it is more than that behind.
  pub early : (number m st c ≡ 4) ↔ (InOrder m st × (2 ^ 31 < behind st c.slot))
  early = Iff.trans same_four (at_tables.early m st (on_tables m st c))

  module _ (slot< : c.slot < 2 ^ 32) (due< : st.due < 2 ^ 32) where
    -- Only the slot that is due is served.
    pub served_when_due : number m st c ≡ 0 → c.slot ≡ st.due
    served_when_due e = at_tables.served_when_due m st (on_tables m st c) slot< due< (same_number m st c e)

    -- With the state in order, any other is declined with 3 or 4.
    pub other_declined : InOrder m st → (c.slot ≡ st.due → ⊥) → (number m st c ≡ 3) ⊎ (number m st c ≡ 4)
    other_declined o other = ⊎_elim (λ e. inl (same_three.1 e)) (λ e. inr (same_four.1 e)) (at_tables.other_declined m st (on_tables m st c) slot< due< o other)
