-- A crowd at target 0, which keeps each of its hosts waiting: every host asks for it alone. Slot calls on frames, and C calls.
use Rattle.std.specs.Prelude.{true, List, ℕ, ◌*◌, replicate}
use Rattle.laws.specs.Sets.{gathered}
use Rattle.laws.specs.Parts.{parts}
use Rattle.frames.specs.Config.{config_frame}
use Rattle.frames.specs.Part.{told_len}
use Rattle.frames.specs.declared.config.Config.{Config}
use Rattle.ports.specs.Modes.{diagonal_mode}
use Rattle.ports.specs.declared.state.State.{State}
use Rattle.ports.specs.declared.state.Mode.TheVariants.{Diagonal}
use Rattle.demands.specs.SlotCall.{SlotCall}
use Rattle.table_bytes.specs.State.{state_len, state_of}
use Rattle.promised.specs.Call.{CCall, Handed, promise}

-- a host asks for target 0, plans nothing and disables none of n hosts
abbrev pub asks_zero : ℕ → Config
asks_zero n = record { req = 1; pre = 0; ben = gathered (λ h. true) n; qen = 0 }

abbrev pub crowd_block : ℕ → List ℕ
crowd_block n = parts (λ h. config_frame (asks_zero n)) n

-- in the slot due, with just as much output as is needed
abbrev pub room : State → List ℕ
room st = replicate (st.ports * told_len st.ports) 0

abbrev pub crowd_call : State → SlotCall
crowd_call st = record { slot = st.due; mode = Diagonal; block = crowd_block st.ports; link = 0; out = room st }

abbrev pub crowd_handed : ℕ → List ℕ → Handed
crowd_handed m state =
    let st = state_of state in
    record { lent = state_len; slot = st.due; mode = diagonal_mode m; block = crowd_block st.ports; link = 0; out = room st; table = replicate (m * 2) 0 }

abbrev pub c_crowd : ℕ → List ℕ → CCall
c_crowd m state = record { handed = crowd_handed m state; left = promise m state (crowd_handed m state) }

-- from offsets (1, 0) on host 0 has to wait for n slots; all ports are operator 0's
abbrev pub from_one : ℕ → State
from_one n = record { ports = n; initiator = record { 0 = 1 }; target = record { 0 = 0 }; due = 0; owners = 0 }
