-- The frames of a slot: their lengths, and a host's frame in a slot block: of n frames of len bytes each, the one at number h.
use Rattle.std.specs.Prelude.{ℕ, ◌*◌, ◌||◌, cond, List, [], eqb, ltb, leb, length}
use Rattle.laws.specs.Parts.{part}
use Rattle.frames.specs.Width.{set_bytes}
use Rattle.frames.specs.Frame.{differs}
use Rattle.frames.specs.Config.{config_len}
use Rattle.frames.specs.Held.{held_len}

-- the greatest port count
abbrev pub most_ports : ℕ
most_ports = 16

-- on a shelf of n ports, the bytes of a host's configuration frame, and of the grant frame that answers it
abbrev pub frame_len : ℕ → ℕ
frame_len n = config_len

abbrev pub told_len : ℕ → ℕ
told_len n = held_len (set_bytes n)

-- the numbers 1, 6 and 11, where at most m ports are allowed
unfoldable pub host_number : ℕ → ℕ → ℕ → ℕ → List ℕ → ℕ
host_number m len n h block =
    cond (ltb n 1 || ltb m n) 1
    (cond (differs (length block) (n * len)) 6
    (cond (leb n h) 11 0))

-- where the part starts; and the part, empty where the call declines
abbrev pub host_start : ℕ → ℕ → ℕ → ℕ → List ℕ → ℕ
host_start m len n h block = cond (eqb (host_number m len n h block) 0) (h * len) 0

abbrev pub host_part : ℕ → ℕ → ℕ → ℕ → List ℕ → List ℕ
host_part m len n h block = cond (eqb (host_number m len n h block) 0) (part (h * len) len block) []
