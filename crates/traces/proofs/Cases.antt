-- Small traces, byte by byte.
use mathlib.Core.Path.{◌≡◌, refl}
use mathlib.Core.Bool.{true, false}
use mathlib.Core.List.{List, [], ◌∷◌, ◌++◌}
use Prim.Native.Nat.{ℕ}
use lib.ListN.{replicate}
use Rattle.laws.specs.Bytes.{number_from}
use Rattle.laws.specs.Steps.{steps, every}
use Rattle.words.specs.Check.{crc_bit, crc_byte, crc_from, intact}
use Rattle.frames.specs.Part.{most_ports}
use Rattle.trace_parts.specs.Layout.{block_len, body_len, most_mode, most_slots}
use Rattle.trace_parts.specs.Contents.{ports_of, count_of, entry_of, due, entry_sound, contents_sound, contents_fit, entry_if}
use Rattle.trace_parts.specs.Body.{fields_of, formed, complete, body_sound, has_block, block_part}
use Rattle.traces.specs.Trace.{body_at, sound_at, trace_sound, trace_head}

-- a shelf of sixteen ports, and no body: ports, body count, check
empty : trace_head most_ports (16 ∷ 0 ∷ 0 ∷ 143 ∷ 255 ∷ []) ≡ record { number = 0; fields = record { ports = 16; count = 0 } }
unfolding crc_from crc_byte crc_bit steps number_from intact ports_of count_of due every contents_sound contents_fit trace_sound
empty = refl

-- two ports, and one body: its first slot is 0x01020304, it has two slots, and it starts at byte 15, where the contents end
abbrev contents : List ℕ
contents = 2 ∷ 0 ∷ 1 ∷ 1 ∷ 2 ∷ 3 ∷ 4 ∷ 0 ∷ 2 ∷ 0 ∷ 0 ∷ 0 ∷ 15 ∷ 111 ∷ 126 ∷ []

-- mode 3, I = 1, J = 0, and the blocks of two slots, of two frames each
abbrev body : List ℕ
body = (3 ∷ 1 ∷ 0 ∷ []) ++ replicate 22 7 ++ replicate 22 9 ++ (85 ∷ 121 ∷ [])

one_body : trace_head most_ports (contents ++ body) ≡ record { number = 0; fields = record { ports = 2; count = 1 } }
unfolding crc_from crc_byte crc_bit steps number_from intact ports_of count_of entry_of due every entry_sound contents_sound contents_fit block_len body_len most_mode most_slots fields_of formed complete body_sound body_at sound_at trace_sound
one_body = refl

-- the entry, and the body that it names
entry_shown : entry_if true (contents ++ body) 0 ≡ record { number = 0; fields = record { entry = record { first = 0x01020304; slots = 2; offset = 15 }; len = 49 } }
unfolding number_from ports_of entry_of block_len body_len
entry_shown = refl

body_shown : body_at (contents ++ body) 0 ≡ body
unfolding number_from ports_of entry_of block_len body_len body_at
body_shown = refl

-- its fields, and the block of its second slot
fields_shown : fields_of body ≡ record { mode = 3; initiator = 1; target = 0 }
unfolding number_from fields_of
fields_shown = refl

block_shown : block_part most_ports 2 2 1 body ≡ replicate 22 9
unfolding block_len body_len most_slots complete has_block
block_shown = refl

-- the same with a byte behind it is no trace, nor is it with an offset off by one under a right check
longer : trace_sound most_ports (contents ++ body ++ (0 ∷ [])) ≡ false
unfolding crc_from crc_byte crc_bit steps number_from intact ports_of count_of entry_of due every entry_sound contents_sound contents_fit block_len body_len most_slots trace_sound
longer = refl

abbrev shifted : List ℕ
shifted = 2 ∷ 0 ∷ 1 ∷ 1 ∷ 2 ∷ 3 ∷ 4 ∷ 0 ∷ 2 ∷ 0 ∷ 0 ∷ 0 ∷ 16 ∷ 140 ∷ 160 ∷ []

moved : (intact shifted ≡ true) × (trace_sound most_ports (shifted ++ body) ≡ false)
unfolding crc_from crc_byte crc_bit steps number_from intact ports_of count_of entry_of due every entry_sound contents_sound contents_fit most_slots trace_sound
moved = (refl, refl)
