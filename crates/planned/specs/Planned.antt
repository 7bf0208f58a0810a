-- Rules 3 and 4, the planned stage.
use Rattle.std.specs.Prelude.{ℕ, cond, List, length, replicate}
use Rattle.laws.specs.Steps.{steps}
use Rattle.laws.specs.Sets.{has, asks, column}
use Rattle.ports.specs.Tables.{within}
use Rattle.ports.specs.declared.state.State.{State}
use Rattle.choices.specs.Choice.{turned, choice}
use Rattle.choices.specs.Join.{join}
use Rattle.choices.specs.declared.work.Work.{Work}

-- rule 3: the first claimant of target t in the rotation that starts at (I + t - J) mod n
unfoldable pub planner : State → List ℕ → ℕ → ℕ
planner st pre t = choice (has (column pre st.ports t)) (λ i. 0) st.ports (turned st.ports st.initiator.0 t st.target.0)

-- rules 3 and 4: target t is given to it, if it has a claimant, and both leave the slot
unfoldable pub give : State → List ℕ → ℕ → Work → Work
give st pre t s = cond (asks pre (planner st pre t) t) (join s (planner st pre t) t) s

-- every target is given
abbrev pub given : State → List ℕ → Work → ℕ → Work
given st pre = steps (give st pre)

unfoldable pub planned : State → List ℕ → Work → Work
planned st pre s = given st pre s st.ports

-- both rules, on the tables of the requests and of the planned claims
unfoldable pub start : State → List ℕ → List ℕ → Work
start st req pre = planned st (within st.ports pre) (record { live = within st.ports req; held = replicate (length req) 0 })
