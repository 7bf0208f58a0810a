-- Live slots, served one after the other, and the body that records them.
use Rattle.std.specs.Prelude.{ℕ, ◌^◌, ◌≤◌, ◌<◌, ◌≡◌, List}
use Rattle.laws.specs.Parts.{parts}
use Rattle.laws.specs.Steps.{steps}
use Rattle.ports.specs.Modes.{mode_of}
use Rattle.ports.specs.declared.state.State.{State}
use Rattle.demands.specs.SlotCall.{SlotCall, next, number}
use Rattle.trace_parts.specs.Layout.{most_slots}
use Rattle.trace_parts.specs.declared.body.Fields.{Fields}
use Rattle.trace_writer.specs.Sealing.{body_of}

-- the state before call k, the first being made on st
unfoldable pub live_state : ℕ → (ℕ → SlotCall) → State → ℕ → State
live_state m calls = steps (λ k st. next m st (calls k))

-- so many calls, as many as a body holds, made in one mode from st on, were served, on a shelf of one operator: a trace has no owners
pub record Served (m mode : ℕ) (calls : ℕ → SlotCall) (st : State) (slots : ℕ) : Type 0 where
  pub some : 1 ≤ slots
  pub most : slots ≤ most_slots st.ports
  pub one_operator : st.owners ≡ 0
  pub one_mode : (k : ℕ) → k < slots → (calls k).mode ≡ mode_of m mode
  pub served : (k : ℕ) → k < slots → number m (live_state m calls st k) (calls k) ≡ 0
  pub slot_words : (k : ℕ) → k < slots → (calls k).slot < 2 ^ 32
  pub due-word : st.due < 2 ^ 32

-- mode, I and J before the first, and the blocks
abbrev pub recorded_fields : ℕ → State → Fields
recorded_fields mode st = record { mode = mode; initiator = st.initiator.0; target = st.target.0 }

abbrev pub recorded : ℕ → (ℕ → SlotCall) → State → ℕ → List ℕ
recorded mode calls st slots = body_of (recorded_fields mode st) (parts (λ k. (calls k).block) slots)
