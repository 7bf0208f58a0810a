-- Rule 5, the central form (Figure 2 of the report).
use Rattle.std.specs.Prelude.{ℕ, cond, List}
use Rattle.laws.specs.Steps.{steps}
use Rattle.laws.specs.Sets.{asks}
use Rattle.ports.specs.declared.state.State.{State}
use Rattle.choices.specs.Choice.{place, fewest}
use Rattle.choices.specs.Join.{join_live}
use Rattle.choices.specs.declared.work.Work.{Work}

-- initiator a wins target t if it asks for it, and otherwise the one with the fewest requests
unfoldable pub winner : List ℕ → ℕ → ℕ → ℕ → ℕ
winner live n t a = cond (asks live a t) a (fewest live n t a)

-- target (J + k) mod n is served, initiator (I + k) mod n being favoured
unfoldable pub serve : State → ℕ → Work → Work
serve st k s =
    let t = place st.ports st.target.0 k in
    join_live s (winner s.live st.ports t (place st.ports st.initiator.0 k)) t

-- the first k targets from J are served
abbrev pub central : State → Work → ℕ → Work
central st = steps (serve st)
