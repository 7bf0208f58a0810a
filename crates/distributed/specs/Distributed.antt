-- Rule 6, the distributed form (section 5 of the report). A round goes by the requests live at its start.
use Rattle.std.specs.Prelude.{ℕ, ◌+◌, ◌&&◌, cond, List, eqb, length, get_or}
use Rattle.laws.specs.Steps.{steps}
use Rattle.laws.specs.Sets.{has, asks, gathered, column, sizes, tabled}
use Rattle.ports.specs.declared.state.State.{State}
use Rattle.choices.specs.Choice.{turned, choice, fewest}
use Rattle.choices.specs.Join.{join, join_live}
use Rattle.choices.specs.Live.{any_live}
use Rattle.choices.specs.declared.work.Work.{Work}
use Rattle.choices.specs.declared.work.Run.{Run}

-- the initiators asking each target
unfoldable pub askers : State → List ℕ → List ℕ
askers st live = tabled (length live) (column live st.ports) st.ports

-- whom each target grants: the asker with the fewest requests, among equals the first in the rotation from (I + t - J) mod n
unfoldable pub grants : State → List ℕ → List ℕ
grants st live = tabled (length live) (λ t. fewest live st.ports t (turned st.ports st.initiator.0 t st.target.0)) st.ports

-- the targets that grant initiator i what it asks
unfoldable pub offers : State → List ℕ → List ℕ → ℕ → ℕ
offers st live grant i = gathered (λ t. asks live i t && eqb (get_or grant t 0) i) st.ports

-- the one of them that i accepts: with the fewest askers, among equals the first in the rotation from (J + i - I) mod n
unfoldable pub accepted : State → List ℕ → ℕ → ℕ → ℕ
accepted st asked offer i = choice (has offer) (λ t. get_or (sizes asked) t 0) st.ports (turned st.ports st.target.0 i st.initiator.0)

-- initiator i is joined to the target that it accepts
unfoldable pub answer : State → List ℕ → List ℕ → List ℕ → ℕ → Work → Work
answer st live asked grant i s =
    let offer = offers st live grant i in
    let t = accepted st asked offer i in
    cond (has offer t) (join s i t) s

-- the first k initiators have answered
abbrev pub answered : State → List ℕ → List ℕ → List ℕ → Work → ℕ → Work
answered st live asked grant = steps (answer st live asked grant)

unfoldable pub round : State → Work → Work
round st s = answered st s.live (askers st s.live) (grants st s.live) s st.ports

-- one more round, while a live request remains
unfoldable pub one_more : State → Run → Run
one_more st r = cond (any_live r.work.live st.ports) (record { work = round st r.work; rounds = r.rounds + 1 }) r

-- at most k rounds
abbrev pub rounds : State → Run → ℕ → Run
rounds st = steps (λ k. one_more st)

-- the favoured pair first, then the rounds that the limit allows
unfoldable pub distributed : State → ℕ → Work → Run
distributed st limit s = rounds st (record { work = join_live s st.initiator.0 st.target.0; rounds = 0 }) limit
