-- No target twice, and nothing from nowhere: for every state and call, served or declined.
use mathlib.Core.Path.{◌≡◌, sym, ◌∙◌}
use mathlib.Core.Logic.{◌⊎◌}
use mathlib.Core.Bool.{true, true≢false}
use Prim.Native.Nat.{ℕ, ◌<◌}
use lib.ListN.{length}
use Rattle.laws.specs.Sets.{asks}
use Rattle.laws.proofs.Members.{asks-empty}
use Rattle.ports.specs.declared.state.State.{State}
use Rattle.demands.specs.Call.{Call, number, sets}
use Rattle.demands.specs.Origin.{Given, Live, Alone}
use Rattle.demands.proofs.Calls.{of-sets, served_call}
use Rattle.demands.proofs.Lawful.{Source, matched-once, matched_source, matched-given}

module _ (m : ℕ) (st : State) where
  -- No target is in two rows.
  pub no_target_twice : (c : Call) (i j t : ℕ) → asks (sets m st c) i t ≡ true → asks (sets m st c) j t ≡ true → i ≡ j
  no_target_twice c i j t = of-sets m st c (λ s. asks s i t ≡ true → asks s j t ≡ true → i ≡ j) (matched-once st c.req c.pre c.mode i j t)
      (λ e. absurd (true≢false (sym e ∙ asks-empty m i t)))

  -- A connection was given in the planned stage, or is a live request and all that its initiator holds.
  pub nothing_from_nowhere : (c : Call) (i t : ℕ) → asks (sets m st c) i t ≡ true
      → Given st c.pre i t ⊎ (Live st c.req c.pre i t × Alone (sets m st c) i t)
  nothing_from_nowhere c i t = of-sets m st c (λ s. asks s i t ≡ true → Source st c.req c.pre s i t) (matched_source st c.req c.pre c.mode i t)
      (λ e. absurd (true≢false (sym e ∙ asks-empty m i t)))

  -- What was given is connected when the call is served.
  pub given-connected : (c : Call) (i t : ℕ) → number m st c ≡ 0 → i < length c.req → Given st c.pre i t → asks (sets m st c) i t ≡ true
  given-connected c i t e row g = rw (served_call m st c e).sets-matched (matched-given st c.req c.pre c.mode i t row g)
