-- No target twice, and nothing from nowhere, on frames: for every state and slot call, served or declined.
use mathlib.Core.Path.{◌≡◌, sym, ap, ◌∙◌}
use mathlib.Core.Logic.{◌⊎◌, inl, inr, ⊎_elim}
use mathlib.Core.Bool.{true, false, true≢false}
use Prim.Native.Nat.{ℕ, ◌<◌}
use native.Mathlib.Decide.{ℕ_discrete}
use native.Mathlib.Omega.{arith}
use lib.ListN.{length}
use Rattle.laws.specs.Sets.{asks}
use Rattle.laws.proofs.Tests.{refuted}
use Rattle.laws.proofs.Members.{asks-empty}
use Rattle.ports.specs.Due.{declined}
use Rattle.ports.specs.declared.state.State.{State}
use Rattle.demands.specs.Call as tables
use Rattle.demands.specs.Origin.{Alone}
use Rattle.demands.specs.SlotCall.{SlotCall, number, sets, on_tables}
use Rattle.demands.specs.Block.{Allied, Enabled, Given, Live}
use Rattle.demands.proofs.Connections as at_tables
use Rattle.demands.proofs.SlotCalls.{request_rows, slot_cases, whole, same_number, same_sets}
use Rattle.demands.proofs.SlotHosts.{Whole, given_exactly, live_exactly}
use Rattle.demands.proofs.SlotRefusal.{declined_does_nothing}

module _ (m : ℕ) (st : State) (c : SlotCall) where
  -- No target is in two rows.
  pub no_target_twice : (i j t : ℕ) → asks (sets m st c) i t ≡ true → asks (sets m st c) j t ≡ true → i ≡ j
  unfolding declined
  no_target_twice i j t = slot_cases m st c (λ r. asks r.answer.sets i t ≡ true → asks r.answer.sets j t ≡ true → i ≡ j)
      (at_tables.no_target_twice m st (on_tables m st c) i j t) (λ x some why e. absurd (true≢false (sym e ∙ asks-empty m i t)))

  -- A call that connects somebody is served.
  pub connected-served : (i t : ℕ) → asks (sets m st c) i t ≡ true → number m st c ≡ 0
  connected-served i t e = go (ℕ_discrete (number m st c) 0)
    where
      go : Dec (number m st c ≡ 0) → number m st c ≡ 0
      go (yes z) = z
      go (no some) = absurd (true≢false (sym e ∙ ap (λ s. asks s i t) (declined_does_nothing m st c some).0.no_sets ∙ asks-empty m i t))

  -- A connection is an enabled heard host's. It was given to it in the planned stage, the host being the first claimant; or it is a
  -- live request, and all that the host holds.
  pub nothing_from_nowhere : (i t : ℕ) → asks (sets m st c) i t ≡ true
      → Enabled st.ports st.owners c.block i × (Given st c.block i t ⊎ (Live st c.block i t × Alone (sets m st c) i t))
  nothing_from_nowhere i t e =
      ⊎_elim
      (λ g. let given = (given_exactly w i t).0 g in (given.claimant.enabled, inl given))
      (λ (l, alone). let live = (live_exactly w i t).0 l in (live.enabled, inr (live, λ u q. alone u (ap (λ s. asks s i u) (sym same) ∙ q))))
      (at_tables.nothing_from_nowhere m st (on_tables m st c) i t (ap (λ s. asks s i t) (sym same) ∙ e))
    where
      done : number m st c ≡ 0
      done = connected-served i t e

      w : Whole m st.ports c.block
      w = whole m st c done

      same : sets m st c ≡ tables.sets m st (on_tables m st c)
      same = same_sets m st c done

  -- No connection joins ports of different operators.
  pub within_operators : (i t : ℕ) → asks (sets m st c) i t ≡ true → Allied st.owners i t
  within_operators i t e = ⊎_elim (λ g. g.claimant.plans.allied) (λ (l, _). l.asked.allied) (nothing_from_nowhere i t e).1

  -- A host that is unheard or disabled is connected to nothing.
  pub absent_unconnected : (i t : ℕ) → (Enabled st.ports st.owners c.block i → ⊥) → asks (sets m st c) i t ≡ false
  absent_unconnected i t absent = refuted _ (λ e. absent (nothing_from_nowhere i t e).0)

  -- What was given in the planned stage is connected when the call is served.
  pub given-connected : (i t : ℕ) → number m st c ≡ 0 → Given st c.block i t → asks (sets m st c) i t ≡ true
  given-connected i t done g =
      let row : i < length (on_tables m st c).req = rw (request_rows m st c) (omega (arith, g.initiator, (whole m st c done).ports_at_most)) in
      rw (same_sets m st c done) (at_tables.given-connected m st (on_tables m st c) i t (same_number m st c done) row ((given_exactly (whole m st c done) i t).1 g))
