-- When a C call connects a pair: in the bytes of the table and of the output.
use Rattle.std.specs.Prelude.{Bool, ◌&&◌, List, ℕ}
use Rattle.laws.specs.Sets.{has}
use Rattle.laws.specs.Bytes.{field}
use Rattle.demands.specs.SlotShare.{names}
use Rattle.demands.specs.Block.{Waits}
use Rattle.table_bytes.specs.State.{state_of}
use Rattle.promised.specs.Call.{CCall, served}

-- target t is in set i of a table's bytes, two for each set, the high one first
abbrev pub holds : List ℕ → ℕ → ℕ → Bool
holds table i t = has (field 2 table i) t

-- the call is served, the pair (i, t) is in the table's bytes, and host i's grant frame in the output's bytes has t in its set
abbrev pub connects : ℕ → ℕ → List ℕ → CCall → Bool
connects i t state d = served state d && (holds d.left.table i t && names (state_of state).ports d.left.out i t)

-- the pair waits in a call
abbrev pub Waiting : ℕ → ℕ → List ℕ → CCall → Type 0
Waiting i t state d = Waits (state_of state).ports (state_of state).owners d.handed.block i t
