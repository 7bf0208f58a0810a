-- A round of rule 6 by its tables: each target's askers, and the targets that offer themselves to each initiator.
use Rattle.std.specs.Prelude.{ℕ, ◌<◌, ◌≡◌, cond, List, get_or, set}
use Rattle.laws.specs.Steps.{steps}
use Rattle.laws.specs.Sets.{has, asks, with}
use Rattle.ports.specs.declared.state.State.{State}
use Rattle.choices.specs.Choice.{turned, choice}
use Rattle.choices.specs.Join.{join}
use Rattle.distributed.specs.Distributed.{grants, offers}
use Rattle.choices.specs.declared.work.Work.{Work}

-- whom target t grants, of those asking it, by how many each asks
abbrev pub granted : State → ℕ → List ℕ → ℕ → ℕ
granted st asking counts t = choice (has asking) (λ i. get_or counts i 0) st.ports (turned st.ports st.initiator.0 t st.target.0)

-- target t offers itself to the one that it grants
unfoldable pub offer : State → List ℕ → ℕ → List ℕ → ℕ → List ℕ → List ℕ
offer st live asking counts t offered =
    let i = granted st asking counts t in
    set offered i (cond (asks live i t) (with (get_or offered i 0) t) (get_or offered i 0))

-- the first k targets have
abbrev pub offering : State → List ℕ → List ℕ → List ℕ → List ℕ → ℕ → List ℕ
offering st live asked counts = steps (λ t. offer st live (get_or asked t 0) counts t)

-- a table of the offers to each initiator
abbrev pub Offers : State → List ℕ → List ℕ → Type 0
Offers st live offered = (i : ℕ) → i < st.ports → get_or offered i 0 ≡ offers st live (grants st live) i

-- initiator i accepts one of those offered, by the targets' numbers of askers
unfoldable pub accept : State → List ℕ → ℕ → ℕ → Work → Work
accept st counts offered i s =
    let t = choice (has offered) (λ t. get_or counts t 0) st.ports (turned st.ports st.target.0 i st.initiator.0) in
    cond (has offered t) (join s i t) s
