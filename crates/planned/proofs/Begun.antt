-- Rules 3 and 4 by their parts.
use mathlib.Core.Path.{◌≡◌}
use mathlib.Core.List.{List}
use Prim.Native.Nat.{ℕ, ◌<◌}
use lib.ListN.{length, get_or, replicate}
use Rattle.laws.specs.Sets.{has, column}
use Rattle.ports.specs.Ready.{Ready}
use Rattle.ports.specs.Tables.{within}
use Rattle.ports.specs.declared.state.State.{State}
use Rattle.choices.specs.Within.{choice_within, turned_within}
use Rattle.choices.specs.declared.work.Work.{Work}
use Rattle.choices.proofs.Choices.{first}
use Rattle.choices.proofs.Ports.{is_chosen}
use Rattle.planned.specs.Planned.{planner, planned, start}

-- the first claimant, by the choice among numbers that are all 0
pub plans : (m : ℕ) (st : State) (pre : List ℕ) (t : ℕ) {from col r : ℕ} → Ready m st → t < st.ports
    → from ≡ turned_within m st.ports st.initiator.0 t st.target.0 → col ≡ column pre st.ports t
    → r ≡ choice_within m (has col) (λ x. get_or (replicate m 0) x 0) st.ports from → (r ≡ planner st pre t) × (r < st.ports)
unfolding planner
plans m st pre t h l f c e =
    let (is, range) = is_chosen m _ _ st.ports st.initiator.0 t st.target.0 f e h.ports h.initiator l h.target in
    (first m (column pre st.ports t) st.ports _ c is, range)

-- both rules on rows of m
pub begun : (st : State) (req pre : List ℕ) (m : ℕ) {live held claims : List ℕ} {r : Work} → length req ≡ m → live ≡ within st.ports req
    → held ≡ replicate m 0 → claims ≡ within st.ports pre → r ≡ planned st claims (record { live = live; held = held }) → r ≡ start st req pre
unfolding start
begun st req pre m p q h l e = rw (e, q, h, l, p)
