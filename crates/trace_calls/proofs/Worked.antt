-- A trace of two bodies for two ports, sealed, written and read as C calls, byte for byte and word for word.
use mathlib.Core.Path.{◌≡◌, refl}
use mathlib.Core.List.{List, [], ◌∷◌, ◌++◌}
use Prim.Native.Nat.{ℕ}
use lib.ListN.{replicate}
use Rattle.laws.specs.Bytes.{big_endian, number_from}
use Rattle.laws.specs.Steps.{steps, every}
use Rattle.words.specs.Check.{crc_bit, crc_byte, crc_from, intact}
use Rattle.frames.specs.Frame.{room_number, written}
use Rattle.frames.specs.Part.{most_ports}
use Rattle.lent.specs.Filled.{fitted_number, filled_after}
use Rattle.lent.specs.Writer.{writer_number}
use Rattle.trace_parts.specs.Layout.{block_len, body_len, most_mode, most_slots}
use Rattle.trace_parts.specs.Contents.{ports_of, count_of, entry_of, due, entry_sound, contents_sound, contents_fit, file_head, has_entry, read_entry}
use Rattle.trace_parts.specs.Body.{fields_of, formed, complete, body_sound}
use Rattle.traces.specs.Trace.{body_at, sound_at, trace_sound, has_body, trace_head, trace_entry}
use Rattle.trace_writer.specs.Sealing.{body_of, body_fits, seal_output}
use Rattle.trace_writer.specs.Writer.{start_of, entry_for, contents_of, counts_fit, trace_of, joined_sound, parts_sound, write_output}
use Rattle.trace_calls.specs.Shown.{head_shown, entry_shown}

-- one slot of mode 3 at (1, 0), and two central ones at (0, 1)
abbrev bodies : List ℕ
bodies = (3 ∷ 1 ∷ 0 ∷ replicate 22 5) ++ (97 ∷ 66 ∷ []) ++ (0 ∷ 0 ∷ 1 ∷ replicate 44 0) ++ (234 ∷ 43 ∷ [])

pub sealed : (seal_output most_ports 2 1 (record { mode = 3; initiator = 1; target = 0 }) (replicate 22 5) (replicate 28 9) ≡ (3 ∷ 1 ∷ 0 ∷ replicate 22 5) ++ (97 ∷ 66 ∷ 9 ∷ []))
    × (seal_output most_ports 2 2 (record { mode = 0; initiator = 0; target = 1 }) (replicate 44 0) (replicate 49 9) ≡ (0 ∷ 0 ∷ 1 ∷ replicate 44 0) ++ (234 ∷ 43 ∷ []))
unfolding crc_from crc_byte crc_bit steps big_endian room_number written block_len body_len most_mode most_slots formed writer_number body_of body_fits
sealed = (refl, refl)

-- ports and count; the first body from slot 0x01020304, at byte 25, where the contents end; the second from the last slot, at byte 52
abbrev contents : List ℕ
contents = 2 ∷ 0 ∷ 2 ∷ 1 ∷ 2 ∷ 3 ∷ 4 ∷ 0 ∷ 1 ∷ 0 ∷ 0 ∷ 0 ∷ 25 ∷ 255 ∷ 255 ∷ 255 ∷ 255 ∷ 0 ∷ 2 ∷ 0 ∷ 0 ∷ 0 ∷ 52 ∷ 14 ∷ 142 ∷ []

pub wrote : write_output most_ports 2 (0x01020304 ∷ 0xFFFFFFFF ∷ []) (1 ∷ 2 ∷ []) bodies (replicate 102 9) ≡ contents ++ bodies ++ (9 ∷ [])
unfolding crc_from crc_byte crc_bit steps big_endian number_from every intact room_number written block_len body_len most_mode most_slots fields_of formed complete body_sound writer_number start_of entry_for contents_of counts_fit trace_of joined_sound parts_sound
wrote = refl

-- ports and count; the first slot of the second body, its slots, its place and its length
pub trace_read : (head_shown (trace_head most_ports (contents ++ bodies)) (7 ∷ 7 ∷ []) ≡ 2 ∷ 2 ∷ [])
    × (entry_shown (trace_entry most_ports (contents ++ bodies) 1) (replicate 4 7) ≡ 0xFFFFFFFF ∷ 2 ∷ 52 ∷ 49 ∷ [])
unfolding crc_from crc_byte crc_bit steps number_from every intact fitted_number filled_after block_len body_len most_mode most_slots ports_of count_of entry_of due entry_sound contents_sound contents_fit fields_of formed complete body_sound body_at sound_at trace_sound has_body
trace_read = (refl, refl)

-- the same of the contents alone
pub contents_read : (head_shown (file_head most_ports 101 contents) (7 ∷ 7 ∷ []) ≡ 2 ∷ 2 ∷ [])
    × (entry_shown (read_entry most_ports contents 1) (replicate 4 7) ≡ 0xFFFFFFFF ∷ 2 ∷ 52 ∷ 49 ∷ [])
unfolding crc_from crc_byte crc_bit steps number_from every intact fitted_number filled_after block_len body_len most_slots ports_of count_of entry_of due entry_sound contents_sound contents_fit has_entry
contents_read = (refl, refl)
