-- A slot that nobody waits for: the step, with an output that its grants just fill, so that number 7 is never given.
use Rattle.std.specs.Prelude.{ℕ, ◌*◌, List, replicate}
use Rattle.frames.specs.Part.{told_len}
use Rattle.ports.specs.declared.state.State.{State}
use Rattle.ports.specs.declared.state.Mode.{Mode}
use Rattle.ports.specs.Answer.{Stepped}
use Rattle.shelf.specs.Step.{refusal, stepped}

abbrev pub just_room : State → List ℕ
just_room st = replicate (st.ports * told_len st.ports) 0

-- the numbers 1 to 6, in their order; 0 if none applies
abbrev pub block_refusal : ℕ → State → ℕ → Mode → List ℕ → ℕ
block_refusal m st slot mode block = refusal m st slot mode block (just_room st)

unfoldable pub unanswered : ℕ → State → ℕ → Mode → List ℕ → Stepped
unanswered m st slot mode block = stepped m st slot mode block (just_room st)
