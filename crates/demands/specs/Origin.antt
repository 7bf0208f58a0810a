-- Where a connection can come from: rules 3 and 4, said of the request table and the planned table as they are handed over.
use Rattle.std.specs.Prelude.{◌≡◌, true, List, ℕ, ◌<◌}
use Rattle.laws.specs.Sets.{asks}
use Rattle.ports.specs.declared.state.State.{State}
use Rattle.demands.specs.Choice.{FirstClaimant}

-- rule 3: target t is given to initiator i
pub record Given (st : State) (pre : List ℕ) (i t : ℕ) : Type 0 where
  pub target : t < st.ports
  pub claimant : FirstClaimant st pre t i

-- rule 4: initiator i asks for target t, is given no target, and t is given to nobody
pub record Live (st : State) (req pre : List ℕ) (i t : ℕ) : Type 0 where
  pub initiator : i < st.ports
  pub target : t < st.ports
  pub asked : asks req i t ≡ true
  pub given_none : (u : ℕ) → Given st pre i u → ⊥
  pub given_to_none : (j : ℕ) → Given st pre j t → ⊥

-- t is all that row i holds
abbrev pub Alone : List ℕ → ℕ → ℕ → Type 0
Alone sets i t = (u : ℕ) → asks sets i u ≡ true → u ≡ t
