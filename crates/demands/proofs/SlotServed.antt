-- Which slot calls are served, and what a served one does to the state.
use mathlib.Core.Path.{◌≡◌, refl, ap, ◌∙◌}
use mathlib.Core.Logic.{⊎_elim}
use Prim.Native.Nat.{ℕ, ◌*◌, ◌≤◌}
use native.Mathlib.Omega.{arith}
use lib.ListN.{length}
use Rattle.frames.specs.Part.{frame_len, told_len}
use Rattle.ports.specs.Due.{behind}
use Rattle.ports.specs.declared.state.State.{State}
use Rattle.ports.specs.Answer.{Stepped}
use Rattle.lcf.specs.Advance.{advance}
use Rattle.demands.specs.Refusal.{InOrder}
use Rattle.demands.specs.SlotCall.{SlotCall, next, number, on_tables}
use Rattle.demands.specs.Numbers.{WrongLimit, passed}
use Rattle.demands.proofs.Calls.{served_call}
use Rattle.demands.proofs.SlotCalls.{number_by_table, as_on_tables, same_number}

module _ (m : ℕ) (st : State) (c : SlotCall) where
  -- A call in order is served: the slot is the one due, limit, block and output are as they must be.
  pub served-in_order : InOrder m st → c.slot ≡ st.due → (WrongLimit m c.mode → ⊥) → length c.block ≡ st.ports * frame_len st.ports
      → st.ports * told_len st.ports ≤ length c.out → number m st c ≡ 0
  unfolding behind
  served-in_order o due limit block out =
      let now = on_time c.slot due in
      (number_by_table m st c 0).1
      (passed (⊎_elim (λ h. omega (arith, o.some_port)) (λ h. omega (arith, o.ports_at_most)))
      (passed (⊎_elim (λ h. omega (arith, o.offsets.initiator)) (λ h. omega (arith, o.offsets.target)))
      (passed (λ h. omega (arith, h.0))
      (passed (λ h. omega arith)
      (passed limit
      (passed (λ other. other block)
      (passed (λ h. omega arith) refl)))))))
    where
      on_time : (slot : ℕ) → slot ≡ st.due → behind st slot ≡ 0
      on_time slot e = omega arith

  -- A served call advances the state (rule 7).
  pub served_advances : number m st c ≡ 0 → next m st c ≡ advance st
  served_advances done = ap (λ (r : Stepped). r.state) (as_on_tables m st c done) ∙ (served_call m st (on_tables m st c) (same_number m st c done)).advances
