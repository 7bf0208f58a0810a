-- Where nobody claims a target, the planned stage changes nothing.
use mathlib.Core.Path.{◌≡◌, sym, ap, ◌∙◌}
use mathlib.Core.Bool.{false, not}
use mathlib.Core.List.{List}
use Prim.Native.Nat.{ℕ, zero, suc, ◌<◌}
use native.Mathlib.Nat.{mod-lt, zero-add}
use native.Mathlib.Omega.{arith}
use lib.Dec.{eqb}
use lib.ListN.{get_or}
use borrow.Author.Tests.{eqb-true, not-false}
use Rattle.laws.specs.Steps.{steps}
use Rattle.laws.specs.Sets.{has, asks, column}
use Rattle.laws.proofs.Loops.{stays}
use Rattle.laws.proofs.Members.{has_none}
use Rattle.laws.proofs.Steps.{upto}
use Rattle.laws.proofs.Tests.{neither}
use Rattle.ports.specs.declared.state.State.{State}
use Rattle.choices.specs.Choice.{turned}
use Rattle.choices.proofs.Ports.{choice_below}
use Rattle.planned.specs.Planned.{planner, give, planned}
use Rattle.choices.specs.Live.{any_live}
use Rattle.choices.specs.declared.work.Work.{Work}

empty_rows : (rows : List ℕ) (n : ℕ) → any_live rows n ≡ false → (i : ℕ) → i < n → get_or rows i 0 ≡ 0
unfolding steps
empty_rows rows zero e i h = absurd (omega arith)
empty_rows rows (suc n) e i h =
    let (here, before) = neither (not (eqb (get_or rows n 0) 0)) (any_live rows n) e in
    upto (λ i. get_or rows i 0 ≡ 0) n (empty_rows rows n before) (eqb-true (get_or rows n 0) 0 (not-false _ here)) i h

module _ (st : State) (pre : List ℕ) (s : Work) (ports : 0 < st.ports) (none : any_live pre st.ports ≡ false) where
  planner_below : (t : ℕ) → planner st pre t < st.ports
  unfolding planner
  planner_below t = choice_below (has (column pre st.ports t)) (λ i. 0) st.ports (turned st.ports st.initiator.0 t st.target.0) (mod-lt _ ports)

  unclaimed : (t : ℕ) → asks pre (planner st pre t) t ≡ false
  unclaimed t = ap (λ row. has row t) (empty_rows pre st.ports none (planner st pre t) (planner_below t)) ∙ has_none t

  pub unplanned : s ≡ planned st pre s
  unfolding planned give steps
  unplanned = sym (stays (give st pre) s 0 st.ports (λ t h. rw (unclaimed t))) ∙ ap (steps (give st pre) s) (zero-add st.ports)
