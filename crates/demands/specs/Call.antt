-- The call on tables, as the demands speak of it.
use Rattle.std.specs.Prelude.{Bool, List, ℕ, eqb}
use Rattle.ports.specs.declared.state.State.{State}
use Rattle.ports.specs.declared.state.Mode.{Mode}
use Rattle.ports.specs.Answer.{Stepped}
use Rattle.hearing.specs.Heard.{counted}
use Rattle.lcf.specs.Slot.{slot_on_tables}

-- a slot number, a mode with its limit, the request table and the planned table
pub record Call : Type 0 where
  pub slot : ℕ
  pub mode : Mode
  pub req : List ℕ
  pub pre : List ℕ

-- what it gives on shelves of at most m ports: the next state, the number and the sets
abbrev pub called : ℕ → State → Call → Stepped
called m st c = slot_on_tables m st c.slot c.mode c.req c.pre

abbrev pub next : ℕ → State → Call → State
next m st c = (called m st c).state

abbrev pub number : ℕ → State → Call → ℕ
number m st c = (called m st c).answer.number

abbrev pub sets : ℕ → State → Call → List ℕ
sets m st c = (called m st c).answer.sets

-- served, and not declined
abbrev pub served : ℕ → State → Call → Bool
served m st c = eqb (number m st c) 0

-- the call with what counts of its tables, by rules 1 and 2
abbrev pub counting : State → ℕ → List ℕ → Call → Call
counting st heard ben c = record { slot = c.slot; mode = c.mode; req = counted st.ports st.owners heard ben c.req; pre = counted st.ports st.owners heard ben c.pre }
