-- A classic libpcap file: a header, and records of one packet each, for n ports. A packet is slot, host and frame.
use Rattle.std.specs.Prelude.{ℕ, ◌+◌, ◌*◌, ◌-◌, ◌/◌, ◌%◌, ◌^◌, Bool, true, false, Option, None, Some, ◌&&◌, ◌||◌, cond, List, reverse, eqb, leb, length}
use Rattle.laws.specs.Bytes.{number, number_at}
use Rattle.laws.specs.Parts.{part}
use Rattle.frames.specs.Part.{frame_len}
use Rattle.refusals.specs.Numbers.{Answer}
use Rattle.captures.specs.declared.number.ByteOrder.{ByteOrder}
use Rattle.captures.specs.declared.number.ByteOrder.TheVariants.{LowFirst, HighFirst}
use Rattle.captures.specs.declared.packet.Packet.{Packet}

abbrev pub header_len : ℕ
header_len = 24

abbrev pub magic : ℕ
magic = 0xA1B2C3D4

abbrev pub link_type : ℕ
link_type = 147

-- a packet's bytes; and a record's, of which the first sixteen are its header
unfoldable pub packet_len : ℕ → ℕ
packet_len n = 5 + frame_len n

unfoldable pub record_len : ℕ → ℕ
record_len n = 16 + packet_len n

-- whether the low byte stands first; and the order of which that is told
abbrev pub low_first : ByteOrder → Bool
low_first LowFirst = true
low_first HighFirst = false

abbrev pub order_of : Bool → ByteOrder
order_of low = cond low LowFirst HighFirst

-- the number that four bytes are from byte `at` on, in the order of the file's writer: the low byte first, or the high byte first
unfoldable pub long_in : Bool → ℕ → List ℕ → ℕ
long_in low at s = cond low (number (reverse (part at 4 s))) (number_at 4 at s)

-- the file's writer put the low byte first
unfoldable pub is_low : List ℕ → Bool
is_low s = eqb (long_in true 0 s) magic

-- the order in which the magic number stands there, the low byte first before the high byte first
abbrev pub magic_order : List ℕ → Option ByteOrder
magic_order s = cond (is_low s) (Some LowFirst) (cond (eqb (long_in false 0 s) magic) (Some HighFirst) None)

-- the low 28 bits of the header's last word name the link type
unfoldable pub header_sound : List ℕ → Bool
header_sound s =
    leb header_len (length s) && ((is_low s || eqb (long_in false 0 s) magic) && eqb (long_in (is_low s) 20 s % 2 ^ 28) link_type)

-- record i, of those that stand whole behind the header; and whether nothing follows them
unfoldable pub record_at : ℕ → List ℕ → ℕ → List ℕ
record_at n s i = part (header_len + i * record_len n) (record_len n) s

unfoldable pub records_of : ℕ → List ℕ → ℕ
records_of n s = (length s - header_len) / record_len n

unfoldable pub whole_records : ℕ → List ℕ → Bool
whole_records n s = eqb ((length s - header_len) % record_len n) 0

-- captured length, slot and host of a record; and the frame
unfoldable pub packet_of : Bool → List ℕ → Packet
packet_of low r = record { captured = long_in low 8 r; slot = number_at 4 16 r; host = number_at 1 20 r }

unfoldable pub frame_of : ℕ → List ℕ → List ℕ
frame_of n r = part 21 (frame_len n) r

-- ---- what the calls answer

-- the file's byte order, or number 18
unfoldable pub header_read : List ℕ → Answer ByteOrder
header_read s = cond (header_sound s) (record { number = 0; fields = order_of (is_low s) }) (record { number = 18; fields = HighFirst })

-- zeros where there is not so much of a record
unfoldable pub packet_in : Bool → List ℕ → Packet
packet_in low r = cond (leb 21 (length r)) (packet_of low r) (record { captured = 0; slot = 0; host = 0 })
