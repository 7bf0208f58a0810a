-- The choices of rules 3, 5 and 6, said of the tables.
use mathlib.Core.Path.{◌≡◌, refl, ap, ◌∙◌}
use mathlib.Core.Bool.{true, false}
use mathlib.Core.List.{List}
use Prim.Native.Nat.{ℕ, ◌≤◌, ◌<◌, ◌+◌, ◌-◌}
use native.Mathlib.Nat.{mod-lt}
use native.Mathlib.Omega.{arith}
use lib.Count.{ones}
use lib.ListN.{length, get_or, get_or-map}
use Rattle.laws.specs.Sets.{has, asks, column, sizes}
use Rattle.laws.proofs.Members.{has-gathered}
use Rattle.laws.proofs.Rows.{row-tabled}
use Rattle.ports.specs.declared.state.State.{State}
use Rattle.choices.specs.Choice.{turned, fewest}
use Rattle.planned.specs.Planned.{planner}
use Rattle.central.specs.Central.{winner}
use Rattle.distributed.specs.Distributed.{askers, grants, offers, accepted}
use Rattle.demands.specs.Choice.{target_start, initiator_start, FirstClaimant, FewestRequests, granted, FewestAskers}
use Rattle.demands.proofs.Choice.{choice-chosen, chosen_same}

-- a start that moves with x is a place of the rotation
turned_below : (n a x y : ℕ) → 0 < n → turned n a x y < n
turned_below n a x y h = mod-lt (a + x + n - y) h

sizes-row : (rows : List ℕ) (i : ℕ) → get_or (sizes rows) i 0 ≡ ones (get_or rows i 0)
unfolding ones
sizes-row rows i = get_or-map ones rows i 0

in_column : (rows : List ℕ) (n t x : ℕ) → x < n → has (column rows n t) x ≡ asks rows x t
in_column rows n t = has-gathered (λ x. asks rows x t) n

-- Rule 5: initiator a wins target t if it asks for it, and otherwise the one with the fewest live requests.
pub winner-favoured : (live : List ℕ) (n t a : ℕ) → asks live a t ≡ true → winner live n t a ≡ a
unfolding winner
winner-favoured live n t a e = rw e

fewest-chosen : (live : List ℕ) (n t a i : ℕ) → a < n → i < n → asks live i t ≡ true → FewestRequests live n t a (fewest live n t a)
unfolding fewest
fewest-chosen live n t a i a< i< e = chosen_same (in_column live n t) (λ x x<. sizes-row live x)
    (choice-chosen (has (column live n t)) (λ x. get_or (sizes live) x 0) n a a< i i< (in_column live n t i i< ∙ e))

pub winner-chosen : (live : List ℕ) (n t a i : ℕ) → a < n → i < n → asks live i t ≡ true → asks live a t ≡ false
    → FewestRequests live n t a (winner live n t a)
unfolding winner
winner-chosen live n t a i a< i< e f = rw f (fewest-chosen live n t a i a< i< e)

module _ (st : State) where
  -- Rule 3: target t is given to its first claimant, if it has one.
  pub planner-chosen : (pre : List ℕ) (t i : ℕ) → i < st.ports → asks pre i t ≡ true → FirstClaimant st pre t (planner st pre t)
  unfolding planner
  planner-chosen pre t i i< e = chosen_same (in_column pre st.ports t) (λ x x<. refl) (choice-chosen (has (column pre st.ports t)) (λ x. 0) st.ports
      (target_start st t) (turned_below _ _ _ _ (omega arith)) i i< (in_column pre st.ports t i i< ∙ e))

  module _ (live : List ℕ) (rows : st.ports ≤ length live) where
    -- Rule 6: target t grants the asker with the fewest requests.
    pub grants-chosen : (t i : ℕ) → t < st.ports → i < st.ports → asks live i t ≡ true
        → FewestRequests live st.ports t (target_start st t) (get_or (grants st live) t 0)
    unfolding grants
    grants-chosen t i t< i< e = rw (row-tabled (length live) (λ t. fewest live st.ports t (target_start st t)) st.ports t t< (omega arith))
        (fewest-chosen live st.ports t (target_start st t) i (turned_below _ _ _ _ (omega arith)) i< e)

    askers-row : (t : ℕ) → t < st.ports → get_or (sizes (askers st live)) t 0 ≡ ones (column live st.ports t)
    unfolding askers
    askers-row t t< = sizes-row (askers st live) t ∙ ap ones (row-tabled (length live) (column live st.ports) st.ports t t< (omega arith))

    pub in_offers : (i t : ℕ) → t < st.ports → has (offers st live (grants st live) i) t ≡ granted st live i t
    unfolding offers
    in_offers i t = has-gathered (granted st live i) st.ports t

    -- Rule 6: initiator i accepts the granting target with the fewest askers.
    pub accepted-chosen : (i t : ℕ) → t < st.ports → granted st live i t ≡ true
        → FewestAskers st live i (accepted st (askers st live) (offers st live (grants st live) i) i)
    unfolding accepted
    accepted-chosen i t t< e = chosen_same (in_offers i) askers-row (choice-chosen (has (offers st live (grants st live) i)) (λ x. get_or (sizes (askers st live)) x 0)
        st.ports (initiator_start st i) (turned_below _ _ _ _ (omega arith)) t t< (in_offers i t t< ∙ e))
