-- The grant frame that tells a host all the targets it holds: type, nodeId, the flags, the set of targets held, check.
-- The set is of w bytes: of 2 in type 3, which has 7 bytes, and of 4 in type 5, which has 9.
use Rattle.std.specs.Prelude.{ℕ, ◌+◌, ◌^◌, Bool, false, not, ◌&&◌, cond, List, ◌∷◌, eqb, ltb, get_or}
use Rattle.laws.specs.Sets.{has}
use Rattle.laws.specs.Bytes.{big_endian, number_at}
use Rattle.frames.specs.Width.{narrow, set_bits}
use Rattle.refusals.specs.Numbers.{Answer}
use Rattle.frames.specs.Flags.{flags, zeros_above}
use Rattle.frames.specs.Frame.{sealed, body_of, formed_number, answered, room_number, written}
use Rattle.frames.specs.declared.held.Held.{Held}

abbrev pub held_len : ℕ → ℕ
held_len w = w + 5

abbrev pub held_type : ℕ → ℕ
held_type w = cond (eqb w narrow) 3 5

-- gntVal is set exactly if the set is not empty
abbrev pub held_agrees : Held → Bool
held_agrees g = cond g.gntval (not (eqb g.set 0)) (eqb g.set 0)

-- in form to be written: nodeId is that of a bit of the set, and the set has w bytes
unfoldable pub held_in_form : ℕ → Held → Bool
held_in_form w g = ltb g.nodeid (set_bits w) && (ltb g.set (256 ^ w) && held_agrees g)

abbrev pub held_body : ℕ → Held → List ℕ
held_body w g = g.nodeid ∷ flags g.gntval g.linkerr g.crcerr ∷ big_endian w g.set

unfoldable pub held_frame : ℕ → Held → List ℕ
held_frame w g = sealed (held_type w) (held_body w g)

unfoldable pub held_of : ℕ → List ℕ → Held
held_of w body =
    record {
      nodeid = get_or body 0 0;
      gntval = has (get_or body 1 0) 0;
      linkerr = has (get_or body 1 0) 1;
      crcerr = has (get_or body 1 0) 2;
      set = number_at w 2 body;
    }

-- in form as read
unfoldable pub held_body_in_form : ℕ → List ℕ → Bool
held_body_in_form w body = zeros_above (get_or body 1 0) && (ltb (get_or body 0 0) (set_bits w) && held_agrees (held_of w body))

abbrev pub no_held : Held
no_held = record { nodeid = 0; gntval = false; linkerr = false; crcerr = false; set = 0 }

-- the numbers 8 to 10, then 11
abbrev pub held_number : ℕ → List ℕ → ℕ
held_number w s = formed_number (held_len w) (held_type w) (held_body_in_form w) s

-- what reading s answers
abbrev pub read_held : ℕ → List ℕ → Answer Held
read_held w s = answered (held_number w s) (held_of w (body_of (held_len w) s)) no_held

-- what writing g to an output answers, 11 before 7, and what the output then holds
abbrev pub write_held_number : ℕ → Held → List ℕ → ℕ
write_held_number w g out = cond (held_in_form w g) (room_number (held_len w) out) 11

abbrev pub write_held_output : ℕ → Held → List ℕ → List ℕ
write_held_output w g out = written (write_held_number w g out) (held_len w) (held_frame w g) out
