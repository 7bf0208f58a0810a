-- A body for n ports, of so many slots, replayed slot by slot from the state of its ports, its I and J and its first slot. A trace has no
-- owners: its replay stands for shelves of one operator, and every port is operator 0's.
use Rattle.std.specs.Prelude.{ℕ, List}
use Rattle.laws.specs.Steps.{steps}
use Rattle.ports.specs.Modes.{mode_of}
use Rattle.ports.specs.declared.state.State.{State}
use Rattle.ports.specs.Answer.{Stepped}
use Rattle.shelf.specs.Unanswered.{unanswered}
use Rattle.trace_parts.specs.Body.{read_fields, block_part}

-- the state before the first slot, on shelves of at most m ports
unfoldable pub start_state : ℕ → ℕ → List ℕ → ℕ → State
start_state m n body first =
    let fields = (read_fields m n body).fields in
    record { ports = n; initiator = record { 0 = fields.initiator }; target = record { 0 = fields.target }; due = first; owners = 0 }

module _ (m n slots : ℕ) (body : List ℕ) where
  -- slot k at the state st: what the slot due gives on the block recorded
  unfoldable pub replay_slot : ℕ → State → Stepped
  replay_slot k st = unanswered m st st.due (mode_of m (read_fields m n body).fields.mode) (block_part m n slots k body)

  -- the state before slot k
  unfoldable pub state_before : ℕ → ℕ → State
  state_before first = steps (λ k st. (replay_slot k st).state) (start_state m n body first)

  -- what slot k gives
  unfoldable pub replayed : ℕ → ℕ → Stepped
  replayed first k = replay_slot k (state_before first k)
