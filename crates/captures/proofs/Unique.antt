-- Each public call's promise allows one result, and one final content of what was lent. `Learnt` is what the contract tells a
-- caller at the arguments a.
use mathlib.Core.Path.{◌≡◌}
use Prim.Native.Nat.{ℕ}
use Rattle.laws.proofs.Unique.{the_result}
use Rattle.std.specs.Prelude.{Result}
use Rattle.refusals.specs.declared.Refusal.{Refusal}
use Rattle.refusals.proofs.Unique.{answer_unique}
use Rattle.captures.specs.declared.number.ByteOrder.{ByteOrder}
use Rattle.captures.specs.declared.number.ByteOrder.TheVariants.{HighFirst}
use Rattle.captures.specs.declared.packet.Packet.{Packet}
use Rattle.captures.proofs.header.read_header.Reads as read-header
use Rattle.captures.proofs.packet.packet_len.Reads as packet-len
use Rattle.captures.proofs.packet.record_len.Reads as record-len
use Rattle.captures.proofs.packet.read_packet.Reads as read-packet

pub read_header_once : (κs a : _) (r s : Result ByteOrder Refusal) (x y : _) → read-header.Learnt κs a r x → read-header.Learnt κs a s y → r ≡ s
read_header_once κs a r s x y p q = answer_unique HighFirst r s (the_result p q)

pub packet_len-once : (κs a : _) (r s : ℕ) (x y : _) → packet-len.Learnt κs a r x → packet-len.Learnt κs a s y → r ≡ s
packet_len-once κs a r s x y p q = the_result p q

pub record_len-once : (κs a : _) (r s : ℕ) (x y : _) → record-len.Learnt κs a r x → record-len.Learnt κs a s y → r ≡ s
record_len-once κs a r s x y p q = the_result p.0 q.0

pub read_packet_once : (κs a : _) (r s : Packet) (x y : _) → read-packet.Learnt κs a r x → read-packet.Learnt κs a s y → r ≡ s
read_packet_once κs a r s x y p q = the_result p q
