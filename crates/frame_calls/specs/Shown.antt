-- The frame calls of the C form: a reader's number, and the bytes between type and check; and a writer's fields.
use Rattle.std.specs.Prelude.{ℕ, ◌-◌, not, List, eqb, length}
use Rattle.lent.specs.Filled.{fitted_number, filled_after}
use Rattle.frames.specs.Frame.{body_of}
use Rattle.frames.specs.declared.held.Held.{Held}

-- a reader of frames of len bytes: 8 for a lent part of another length, before what reading the frame answers
abbrev pub part_number : ℕ → ℕ → List ℕ → ℕ
part_number len number part = fitted_number (eqb (length part) (len - 3)) number

-- the part then: those bytes of the frame, or what it held where the call declines
abbrev pub part_after : ℕ → ℕ → List ℕ → List ℕ → List ℕ
part_after len number frame part = filled_after (part_number len number part) (body_of len frame) part

-- the fields of a grant frame as plain numbers; a flag is set unless 0
abbrev pub held_of5 : ℕ → ℕ → ℕ → ℕ → ℕ → Held
held_of5 node val link crc set =
    record { nodeid = node; gntval = not (eqb val 0); linkerr = not (eqb link 0); crcerr = not (eqb crc 0); set = set }
