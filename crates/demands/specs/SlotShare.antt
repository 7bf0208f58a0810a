-- Demand 3 on frames: when a pair waits, and when a slot call connects it.
use Rattle.std.specs.Prelude.{Bool, ◌&&◌, List, ℕ, ◌*◌, eqb}
use Rattle.laws.specs.Parts.{part}
use Rattle.laws.specs.Sets.{has, asks}
use Rattle.frames.specs.Width.{set_bytes}
use Rattle.frames.specs.Held.{read_held}
use Rattle.frames.specs.Part.{told_len}
use Rattle.ports.specs.declared.state.State.{State}
use Rattle.demands.specs.SlotCall.{SlotCall, sets, served, output_after}
use Rattle.demands.specs.Block.{Waits}

-- the bytes of host i's grant frame, of n hosts, in an output
abbrev pub grant_part : ℕ → List ℕ → ℕ → List ℕ
grant_part n out i = part (i * told_len n) (told_len n) out

-- they read as a correct grant frame, with nodeId i, and t is in its set
abbrev pub names : ℕ → List ℕ → ℕ → ℕ → Bool
names n out i t =
    let read = read_held (set_bytes n) (grant_part n out i) in
    eqb read.number 0 && (eqb read.fields.nodeid i && has read.fields.set t)

-- the call is served, the pair (i, t) is in the table that it returns, and host i's grant frame in the output then has t in its set
abbrev pub connects : ℕ → ℕ → ℕ → State → SlotCall → Bool
connects m i t st c = served m st c && (asks (sets m st c) i t && names st.ports (output_after m st c) i t)

-- the pair waits in a call
abbrev pub Waiting : ℕ → ℕ → State → SlotCall → Type 0
Waiting i t st c = Waits st.ports st.owners c.block i t
