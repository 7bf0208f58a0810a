-- What is known of a slot that is served.
use mathlib.Core.Path.{◌≡◌, refl}
use mathlib.Core.Bool.{Bool, true, false}
use mathlib.Core.List.{List}
use Prim.Native.Nat.{ℕ, ◌+◌, ◌*◌, ◌≤◌}
use native.Mathlib.Omega.{arith}
use lib.Dec.{eqb, ltb}
use lib.ListN.{length}
use borrow.Author.Tests.{eqb-true, eqb-false, ltb-false, ne_eqb}
use Rattle.laws.proofs.Tests.{both, arms}
use Rattle.ports.specs.Due.{declined}
use Rattle.ports.specs.declared.state.State.{State}
use Rattle.ports.specs.declared.state.Mode.{Mode}
use Rattle.ports.specs.Answer.{Stepped}
use Rattle.queue_records.specs.Records.{head_len, ports_of, count_of}
use Rattle.queue_records.specs.Order.{usable}
use Rattle.queue_records.proofs.Ordered.{usable_known}
use Rattle.queue_steps.specs.Step.{scheduled, fits, roomy, stepped}

-- a slot that the scheduler declines
pub roomy-declined : (m w : ℕ) (st : State) (room number : ℕ) → (number ≡ 0 → ⊥) → declined m st number ≡ roomy m w st room (declined m st number)
unfolding roomy declined
roomy-declined m w st room number some = rw (ne_eqb number 0 some)

module _ (m c w : ℕ) (words : List ℕ) (st : State) (len : ℕ) where
  pub fits_known : fits m c w words st len ≡ true → (usable m c w words len ≡ true) × (ports_of words ≡ st.ports)
  unfolding fits
  fits_known e =
      let (fit, same) = both (usable m c w words len) (eqb (ports_of words) st.ports) e in
      (fit, eqb-true (ports_of words) st.ports same)

  pub fits-room : fits m c w words st len ≡ true → (head_len + count_of words ≤ length words) × (st.ports ≤ m)
  fits-room e =
      let (fit, same) = fits_known e in
      let h = (usable_known m c w words len fit).order.head in
      (omega (arith, h.held, h.long), omega (arith, h.ports))

  module _ (slot : ℕ) (mode : Mode) (room : ℕ) where
    abbrev run : Stepped
    run = scheduled m words st slot mode

    roomy_known : (roomy m w st room run).answer.number ≡ 0 → (st.ports * w ≤ room) × (roomy m w st room run ≡ run)
    unfolding roomy declined
    roomy_known = arms (λ (z : Stepped). z.answer.number ≡ 0 → (st.ports * w ≤ room) × (z ≡ run)) (eqb run.answer.number 0) _ _
        (λ _. arms (λ (z : Stepped). z.answer.number ≡ 0 → (st.ports * w ≤ room) × (z ≡ run)) (ltb room (st.ports * w)) _ _
        (λ _ e. absurd (omega arith)) (λ t _. (ltb-false room (st.ports * w) t, refl)))
        (λ t e. absurd (eqb-false run.answer.number 0 t e))

    -- a slot that is served had its records, its pool and its room, and is the scheduler's
    pub record Served : Type 0 where
      pub fit : usable m c w words len ≡ true
      pub ports : ports_of words ≡ st.ports
      pub place : ports_of words * w ≤ room
      pub is_run : stepped m c w words st slot mode len room ≡ run

    pub served : (stepped m c w words st slot mode len room).answer.number ≡ 0 → Served
    unfolding stepped declined
    served e = go (fits m c w words st len) refl e
      where
        go : (b : Bool) → fits m c w words st len ≡ b → (stepped m c w words st slot mode len room).answer.number ≡ 0 → Served
        go true y z =
            let (fit, ports) = fits_known y in
            let (place, is) = roomy_known (rw y at z) in
            record { fit = fit; ports = ports; place = rw ports place; is_run = rw y is }
        go false y z = absurd (let z17 : ◌≡◌ {A = ℕ} 17 0 = rw y at z in omega arith)
