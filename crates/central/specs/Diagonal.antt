-- The diagonal (document 02, item 7).
use Rattle.std.specs.Prelude.{ℕ}
use Rattle.laws.specs.Steps.{steps}
use Rattle.ports.specs.declared.state.State.{State}
use Rattle.choices.specs.Choice.{place}
use Rattle.choices.specs.Join.{join_live}
use Rattle.choices.specs.declared.work.Work.{Work}

-- for so many k from 0 on the pair ((I + k) mod n, (J + k) mod n) is joined, if its request is live
abbrev pub diagonal : State → Work → ℕ → Work
diagonal st = steps (λ k s. join_live s (place st.ports st.initiator.0 k) (place st.ports st.target.0 k))
