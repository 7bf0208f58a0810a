-- The grant frames that answer a slot.
use Rattle.std.specs.Prelude.{ℕ, ◌*◌, not, List, ◌++◌, eqb, get_or, drop}
use Rattle.laws.specs.Parts.{parts}
use Rattle.laws.specs.Sets.{has}
use Rattle.frames.specs.Width.{set_bytes}
use Rattle.frames.specs.Held.{held_frame}
use Rattle.frames.specs.Part.{told_len}
use Rattle.frames.specs.declared.held.Held.{Held}

-- what host i is told: all the targets that it holds
unfoldable pub grant_of : ℕ → ℕ → ℕ → ℕ → Held
grant_of heard link set i = record { nodeid = i; gntval = not (eqb set 0); linkerr = has link i; crcerr = not (has heard i); set = set }

abbrev pub grant_for : ℕ → ℕ → List ℕ → ℕ → Held
grant_for heard link sets i = grant_of heard link (get_or sets i 0) i

-- n grant frames, one after the other, and the rest of the output as it was
unfoldable pub granted : ℕ → ℕ → ℕ → List ℕ → List ℕ → List ℕ
granted n heard link sets out = parts (λ i. held_frame (set_bytes n) (grant_for heard link sets i)) n ++ drop (n * told_len n) out
