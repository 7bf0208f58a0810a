-- The wrap from 4294967295 to 0 is no gap.
use mathlib.Core.Path.{◌≡◌, refl}
use mathlib.Core.Logic.{⊎_elim}
use mathlib.Core.List.{List}
use Prim.Native.Nat.{ℕ, suc, ◌+◌, ◌%◌, ◌^◌, ◌<◌}
use Rattle.laws.specs.Bytes.{big_endian, number_from}
use Rattle.laws.specs.Steps.{steps}
use Rattle.frames.specs.Frame.{room_number, written}
use Rattle.frames.specs.Part.{most_ports}
use Rattle.trace_parts.specs.Contents.{count_of, entry_of}
use Rattle.captures.specs.Capture.{long_in, is_low, header_sound, record_len, packet_len, record_at, records_of, whole_records, packet_in, packet_of, frame_of}
use Rattle.trace_parts.specs.Layout.{most_mode, most_slots, block_len, body_len}
use Rattle.trace_writer.specs.Sealing.{body_of}
use Rattle.trace_writer.specs.Writer.{start_of, entry_for, contents_of, trace_of}
use Rattle.lcf.specs.Advance.{advance}
use Rattle.import_steps.specs.Taking.{start_number, started, stale, same_slot, next_slot, new_body, fits, heard, slot_begun, took, step_number, numbered, taken}
use Rattle.imports.specs.Cut.{frame_for, block_of, joined, body_bytes, all_bodies, cut_more, cut}
use Rattle.imports.specs.Import.{trace_for, length_for, cut_number, cut_answer, cut_output, file_number, whole_cut, import_answer, import_output}
use Rattle.imported.specs.Imports.{InBodies}
use Rattle.imported.specs.Trace.{imported}
use Rattle.imported.specs.Worked.{two_slots, two_imported, room}

-- a body that is followed by one whose first slot is the next, 0 after 4294967295, is full
pub next_is_no_gap : (n mode i j : ℕ) (t : List ℕ) → InBodies n mode i j t → (b : ℕ) → suc b < count_of t
    → (entry_of t (suc b)).first ≡ ((entry_of t b).first + (entry_of t b).slots) % 2 ^ 32 → (entry_of t b).slots ≡ most_slots n
next_is_no_gap n mode i j t h b l e = ⊎_elim (λ full. full) (λ gap. absurd (gap e)) (h.next b l)

-- slot 0 after slot 4294967295 stands in the same body; slot 1 does not
pub over_the_wrap : ((import_answer most_ports 1 0 0 0 (two_slots 4294967295 0) room).number ≡ 0) × (count_of (two_imported 4294967295 0) ≡ 1) × ((entry_of (two_imported 4294967295 0) 0).slots ≡ 2)
unfolding imported import_answer import_output file_number whole_cut cut cut_more all_bodies cut_answer cut_output cut_number trace_for length_for frame_for block_of joined body_bytes steps start_number started stale same_slot next_slot new_body fits heard slot_begun took step_number numbered taken long_in is_low header_sound record_len packet_len record_at records_of whole_records packet_in packet_of frame_of big_endian number_from most_mode most_slots block_len body_len body_of start_of entry_for contents_of trace_of written room_number count_of entry_of advance
over_the_wrap = (refl, refl, refl)

pub gap_at_the_wrap : ((import_answer most_ports 1 0 0 0 (two_slots 4294967295 1) room).number ≡ 0) × (count_of (two_imported 4294967295 1) ≡ 2) × ((entry_of (two_imported 4294967295 1) 1).first ≡ 1)
unfolding imported import_answer import_output file_number whole_cut cut cut_more all_bodies cut_answer cut_output cut_number trace_for length_for frame_for block_of joined body_bytes steps start_number started stale same_slot next_slot new_body fits heard slot_begun took step_number numbered taken long_in is_low header_sound record_len packet_len record_at records_of whole_records packet_in packet_of frame_of big_endian number_from most_mode most_slots block_len body_len body_of start_of entry_for contents_of trace_of written room_number count_of entry_of advance
gap_at_the_wrap = (refl, refl, refl)
