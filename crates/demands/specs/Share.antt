-- Demand 3: when a pair waits, and when a call connects it.
use Rattle.std.specs.Prelude.{◌≡◌, Bool, true, false, ◌&&◌, List, ℕ, ◌<◌}
use Rattle.laws.specs.Sets.{asks}
use Rattle.ports.specs.declared.state.State.{State}
use Rattle.demands.specs.Call.{Call, sets, served}

-- the call is served, and the pair (i, t) is in the table that it returns
abbrev pub connects : ℕ → ℕ → ℕ → State → Call → Bool
connects m i t st c = served m st c && asks (sets m st c) i t

-- row i asks for t and plans nothing, and no row plans t (of n ports)
pub record Waits (n : ℕ) (req pre : List ℕ) (i t : ℕ) : Type 0 where
  pub asked : asks req i t ≡ true
  pub plans_nothing : (u : ℕ) → u < n → asks pre i u ≡ false
  pub unplanned : (h : ℕ) → h < n → asks pre h t ≡ false

-- the pair waits in a call
abbrev pub Waiting : ℕ → ℕ → State → Call → Type 0
Waiting i t st c = Waits st.ports c.req c.pre i t
