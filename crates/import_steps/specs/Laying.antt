-- The open body in lent bytes: its fields, and a block for each slot. A frame that is absent is zeros.
use Rattle.std.specs.Prelude.{ℕ, ◌+◌, ◌-◌, ◌*◌, Bool, cond, ◌&&◌, List, ◌++◌, length, take, drop, replicate, ◌==◌}
use Rattle.laws.specs.Tests.{between}
use Rattle.words.specs.Check.{checked}
use Rattle.frames.specs.Part.{frame_len}
use Rattle.frames.specs.Frame.{room_number, written}
use Rattle.lent.specs.Writer.{writer_number}
use Rattle.trace_parts.specs.Layout.{block_len, body_len, most_slots}
use Rattle.trace_parts.specs.Body.{block_at}
use Rattle.trace_parts.specs.declared.body.Fields.{Fields}
use Rattle.trace_writer.specs.Sealing.{field_bytes}
use Rattle.captures.specs.Capture.{packet_in, frame_of}
use Rattle.captures.specs.declared.packet.Packet.{Packet}
use Rattle.import_steps.specs.Taking.{Known, same_slot, next_slot, is_resent, took, taken}

-- x in place of the bytes from `at` on
unfoldable pub over : ℕ → List ℕ → List ℕ → List ℕ
over at x s = take at s ++ (x ++ drop (at + length x) s)

-- the fields of a body that starts now
abbrev pub fields_now : Known → Fields
fields_now p = record { mode = p.mode; initiator = p.state.initiator.0; target = p.state.target.0 }

-- where the last of so many blocks starts
abbrev pub last_block : ℕ → ℕ → ℕ
last_block n slots = block_at n (slots - 1)

-- the open body with a block for the packet's slot
unfoldable pub opened : Known → Packet → List ℕ → List ℕ
opened p k body =
    cond (same_slot p k) body
    (over (last_block p.state.ports (took p k).slots) (replicate (block_len p.state.ports) 0)
    (cond (next_slot p k) body (over 0 (field_bytes (fields_now p)) body)))

-- and the packet's frame in it, unless it is resent
unfoldable pub placed : Known → Packet → List ℕ → List ℕ → List ℕ
placed p k frame body =
    cond (is_resent p k) body
    (over (last_block p.state.ports (took p k).slots + k.host * frame_len p.state.ports) frame (opened p k body))

-- ---- the calls

-- what the step answers, then 7 where the body with the packet's block does not fit
unfoldable pub lay_number : ℕ → Bool → Known → List ℕ → List ℕ → ℕ
lay_number m low p r body =
    cond ((taken m low p r).number == 0) (room_number (block_at p.state.ports (taken m low p r).slots) body) (taken m low p r).number

unfoldable pub lay_output : ℕ → Bool → Known → List ℕ → List ℕ → List ℕ
lay_output m low p r body =
    cond (lay_number m low p r body == 0) (placed p (packet_in low r) (frame_of p.state.ports r) body) body

-- the open body with its check: 14 where there is none, then 7
abbrev pub open_len : Known → ℕ
open_len p = body_len p.state.ports p.slots

unfoldable pub is_open : ℕ → Known → Bool
is_open m p = between 1 m p.state.ports && between 1 (most_slots p.state.ports) p.slots

abbrev pub close_number : ℕ → Known → List ℕ → ℕ
close_number m p body = writer_number (is_open m p) (open_len p) body

abbrev pub close_output : ℕ → Known → List ℕ → List ℕ
close_output m p body =
    written (close_number m p body) (open_len p) (checked (take (block_at p.state.ports p.slots) body)) body
