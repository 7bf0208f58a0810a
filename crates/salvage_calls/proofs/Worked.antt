-- A damaged trace of one port and five bodies of a slot each, salvaged as a C call, byte for byte and word for word: two bodies are kept, and one
-- is dropped for each fault.
use mathlib.Core.Path.{◌≡◌, refl}
use mathlib.Core.List.{List, [], ◌∷◌, ◌++◌}
use Prim.Native.Nat.{ℕ}
use lib.ListN.{replicate}
use Rattle.laws.specs.Bytes.{big_endian, number_from}
use Rattle.laws.specs.Steps.{steps, every}
use Rattle.words.specs.Check.{crc_bit, crc_byte, crc_from, intact}
use Rattle.frames.specs.Frame.{room_number, written}
use Rattle.frames.specs.Part.{most_ports}
use Rattle.lent.specs.Filled.{fitted_number, filled_after}
use Rattle.trace_parts.specs.Layout.{block_len, body_len, most_mode, most_slots}
use Rattle.trace_parts.specs.Contents.{ports_of, count_of, entry_of, due, entry_sound, contents_sound}
use Rattle.trace_parts.specs.Body.{fields_of, formed, complete, body_sound}
use Rattle.traces.specs.Trace.{body_at, sound_at}
use Rattle.trace_writer.specs.Writer.{start_of, entry_for, contents_of, trace_of}
use Rattle.body_fates.specs.Fate.{fate}
use Rattle.salvages.specs.Salvage.{fate_at, salvaged, salvage_number, salvage_answer}
use Rattle.salvage_calls.specs.Salvaging.{salvaged_number, salvaged_shown, salvaged_output, salvaged_fates}

-- the first slots are 100, 7, 8, 4294967295 and 10
abbrev old : List ℕ
old = 1 ∷ 0 ∷ 5 ∷ 0 ∷ 0 ∷ 0 ∷ 100 ∷ 0 ∷ 1 ∷ 0 ∷ 0 ∷ 0 ∷ 55 ∷ 0 ∷ 0 ∷ 0 ∷ 7 ∷ 0 ∷ 1 ∷ 0 ∷ 0 ∷ 0 ∷ 71 ∷ 0 ∷ 0 ∷ 0 ∷ 8 ∷ 0 ∷ 1 ∷ 0 ∷ 0 ∷ 0 ∷ 87 ∷ 255 ∷ 255 ∷ 255 ∷ 255 ∷ 0 ∷ 1 ∷ 0 ∷ 0 ∷ 0 ∷ 103 ∷ 0 ∷ 0 ∷ 0 ∷ 10 ∷ 0 ∷ 1 ∷ 0 ∷ 0 ∷ 0 ∷ 119 ∷ 223 ∷ 104 ∷ []

-- central, and diagonal first
abbrev one : List ℕ
one = (0 ∷ 0 ∷ 0 ∷ []) ++ replicate 11 7 ++ (97 ∷ 130 ∷ [])

abbrev four : List ℕ
four = (17 ∷ 0 ∷ 0 ∷ []) ++ replicate 11 5 ++ (129 ∷ 228 ∷ [])

-- of a mode that there is not: with a right check, and with a wrong one
abbrev unformed : List ℕ
unformed = (18 ∷ 0 ∷ 0 ∷ []) ++ replicate 11 9 ++ (208 ∷ 70 ∷ [])

abbrev changed : List ℕ
changed = (18 ∷ 0 ∷ 0 ∷ []) ++ replicate 11 9 ++ (208 ∷ 71 ∷ [])

-- the last body is cut
abbrev damaged : List ℕ
damaged = old ++ one ++ changed ++ unformed ++ four ++ replicate 9 0

-- the new contents, with the first slots 100 and 4294967295, and new offsets
abbrev new : List ℕ
new = 1 ∷ 0 ∷ 2 ∷ 0 ∷ 0 ∷ 0 ∷ 100 ∷ 0 ∷ 1 ∷ 0 ∷ 0 ∷ 0 ∷ 25 ∷ 255 ∷ 255 ∷ 255 ∷ 255 ∷ 0 ∷ 1 ∷ 0 ∷ 0 ∷ 0 ∷ 41 ∷ 81 ∷ 5 ∷ []

abbrev made : List ℕ
made = new ++ one ++ four

-- its length and the bodies of the old; the new trace, with a byte of room more; kept, check (though it is out of form too), form, kept, short (though
-- its check is wrong too), and a place more
salvage_told : (salvaged_shown most_ports damaged (replicate 58 9) (replicate 6 7) (7 ∷ 7 ∷ []) ≡ 57 ∷ 5 ∷ [])
    × (salvaged_output most_ports damaged (replicate 58 9) (replicate 6 7) (7 ∷ 7 ∷ []) ≡ made ++ (9 ∷ []))
    × (salvaged_fates most_ports damaged (replicate 58 9) (replicate 6 7) (7 ∷ 7 ∷ []) ≡ 0 ∷ 2 ∷ 3 ∷ 0 ∷ 1 ∷ 7 ∷ [])
unfolding crc_from crc_byte crc_bit steps big_endian number_from every intact room_number written fitted_number filled_after block_len body_len most_mode most_slots ports_of count_of entry_of due entry_sound contents_sound fields_of formed complete body_sound body_at sound_at start_of entry_for contents_of trace_of fate fate_at salvaged salvage_number salvage_answer salvaged_output salvaged_fates
salvage_told = (refl, refl, refl)

-- a byte of room less, or a place, does not do
too_short : (salvaged_number most_ports damaged (replicate 56 9) (replicate 5 7) (7 ∷ 7 ∷ []) ≡ 7)
    × (salvaged_number most_ports damaged (replicate 57 9) (replicate 4 7) (7 ∷ 7 ∷ []) ≡ 7)
unfolding crc_from crc_byte crc_bit steps big_endian number_from every intact room_number fitted_number block_len body_len most_mode most_slots ports_of count_of entry_of due entry_sound contents_sound fields_of formed complete body_sound body_at sound_at start_of entry_for contents_of trace_of salvaged salvage_number salvage_answer
too_short = (refl, refl)
