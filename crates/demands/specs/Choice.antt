-- The choice of rules 3, 5 and 6, as document 01 words it.
use Rattle.std.specs.Prelude.{◌≡◌, Bool, true, ◌&&◌, List, ℕ, ◌≤◌, ◌<◌, eqb, get_or}
use Rattle.std.specs.Int.Count.{ones}
use Rattle.laws.specs.Sets.{asks, column}
use Rattle.ports.specs.declared.state.State.{State}
use Rattle.choices.specs.Choice.{place, turned}
use Rattle.distributed.specs.Distributed.{grants}

-- of those below n that ask, c has the lowest number; among equals, it is the first in the rotation from a
pub record Chosen (asking : ℕ → Bool) (number : ℕ → ℕ) (n a c : ℕ) : Type 0 where
  pub below : c < n
  pub asks_too : asking c ≡ true
  pub lowest : (x : ℕ) → x < n → asking x ≡ true → number c ≤ number x
  -- its place in the rotation; none that asks and has its number comes earlier
  pub turn : ℕ
  pub turn_below : turn < n
  pub in_turn : place n a turn ≡ c
  pub first : (k : ℕ) → k < turn → asking (place n a k) ≡ true → number (place n a k) ≡ number c → ⊥

-- where the rotation of target t starts: (I + t - J) mod n
abbrev pub target_start : State → ℕ → ℕ
target_start st t = turned st.ports st.initiator.0 t st.target.0

-- where the rotation of initiator i starts: (J + i - I) mod n
abbrev pub initiator_start : State → ℕ → ℕ
initiator_start st i = turned st.ports st.target.0 i st.initiator.0

-- rule 3: of the claimants of target t, i is the first in its rotation
abbrev pub FirstClaimant : State → List ℕ → ℕ → ℕ → Type 0
FirstClaimant st pre t i = Chosen (λ x. asks pre x t) (λ x. 0) st.ports (target_start st t) i

-- rules 5 and 6: of the initiators asking for target t, i has the fewest live requests; among equals, it is the first in the rotation from a
abbrev pub FewestRequests : List ℕ → ℕ → ℕ → ℕ → ℕ → Type 0
FewestRequests live n t a i = Chosen (λ x. asks live x t) (λ x. ones (get_or live x 0)) n a i

-- rule 6: target t grants initiator i what it asks
abbrev pub granted : State → List ℕ → ℕ → ℕ → Bool
granted st live i t = asks live i t && eqb (get_or (grants st live) t 0) i

-- rule 6: of the targets that grant initiator i, t has the fewest askers; among equals, it is the first in i's rotation
abbrev pub FewestAskers : State → List ℕ → ℕ → ℕ → Type 0
FewestAskers st live i t = Chosen (granted st live i) (λ x. ones (column live st.ports x)) st.ports (initiator_start st i) t
