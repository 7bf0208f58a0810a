-- The measures of a trace; those that depend on its ports n are functions of them.
use Rattle.std.specs.Prelude.{ℕ, ◌+◌, ◌*◌, cond}
use Rattle.laws.specs.Tests.{between}
use Rattle.frames.specs.Part.{most_ports, frame_len}

-- the bytes of a slot block
unfoldable pub block_len : ℕ → ℕ
block_len n = n * frame_len n

-- the greatest mode: diagonal-first, after the greatest round limit
unfoldable pub most_mode : ℕ → ℕ
most_mode n = most_ports + 1

-- the most slots in a body
unfoldable pub most_slots : ℕ → ℕ
most_slots n = 360

abbrev pub most_bodies : ℕ
most_bodies = 1024

-- ports and body count; an entry; mode, I and J; a check
abbrev pub head_len : ℕ
head_len = 3

abbrev pub entry_len : ℕ
entry_len = 10

abbrev pub fields_len : ℕ
fields_len = 3

abbrev pub check_len : ℕ
check_len = 2

-- the contents of so many bodies, and a body of so many slots
abbrev pub contents_len : ℕ → ℕ
contents_len count = head_len + count * entry_len + check_len

unfoldable pub body_len : ℕ → ℕ → ℕ
body_len n slots = fields_len + slots * block_len n + check_len

-- where at most m ports are allowed; 0 where n is no port count
abbrev pub body_size : ℕ → ℕ → ℕ → ℕ
body_size m n slots = cond (between 1 m n) (body_len n slots) 0
