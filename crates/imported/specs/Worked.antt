-- A capture of two records for one port, at the slots a and b, written with the high byte first.
use Rattle.std.specs.Prelude.{ℕ, List, ◌∷◌, ◌++◌, replicate}
use Rattle.laws.specs.Bytes.{big_endian}
use Rattle.frames.specs.Part.{most_ports, frame_len}
use Rattle.captures.specs.Capture.{magic, link_type, packet_len}
use Rattle.imported.specs.Trace.{imported}

abbrev pub file_header : List ℕ
file_header = big_endian 4 magic ++ replicate 16 0 ++ big_endian 4 link_type

-- host 0's frame, of zeros
abbrev pub record_of : ℕ → List ℕ
record_of slot = replicate 8 0 ++ big_endian 4 (packet_len 1) ++ big_endian 4 (packet_len 1) ++ big_endian 4 slot ++ (0 ∷ replicate (frame_len 1) 0)

abbrev pub two_slots : ℕ → ℕ → List ℕ
two_slots a b = file_header ++ record_of a ++ record_of b

-- room for its trace, and the trace in mode 0 from the offsets (0, 0)
abbrev pub room : List ℕ
room = replicate 64 0

abbrev pub two_imported : ℕ → ℕ → List ℕ
two_imported a b = imported most_ports 1 0 0 0 (two_slots a b) room
