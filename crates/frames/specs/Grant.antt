-- The grant frame of type 2, 5 bytes, which is read and no longer written: type; nodeId and gnt, four bits each; the flags; check.
use Rattle.std.specs.Prelude.{ℕ, ◌+◌, ◌*◌, ◌/◌, ◌%◌, Bool, false, ◌&&◌, ◌||◌, List, [], ◌∷◌, eqb, leb, get_or}
use Rattle.laws.specs.Sets.{has}
use Rattle.refusals.specs.Numbers.{Answer}
use Rattle.frames.specs.Flags.{flags, zeros_above}
use Rattle.frames.specs.Frame.{sealed, body_of, formed_number, answered}
use Rattle.frames.specs.declared.grant.Grant.{Grant}

abbrev pub grant_len : ℕ
grant_len = 5

abbrev pub grant_type : ℕ
grant_type = 2

-- gntVal clear requires gnt 0
abbrev pub agrees : Grant → Bool
agrees g = g.gntval || eqb g.gnt 0

-- in form
unfoldable pub in_form : Grant → Bool
in_form g = leb g.nodeid 15 && (leb g.gnt 15 && agrees g)

abbrev pub grant_body : Grant → List ℕ
grant_body g = (g.nodeid * 16 + g.gnt) ∷ flags g.gntval g.linkerr g.crcerr ∷ []

unfoldable pub grant_frame : Grant → List ℕ
grant_frame g = sealed grant_type (grant_body g)

unfoldable pub grant_of : List ℕ → Grant
grant_of body =
    record {
      nodeid = get_or body 0 0 / 16;
      gnt = get_or body 0 0 % 16;
      gntval = has (get_or body 1 0) 0;
      linkerr = has (get_or body 1 0) 1;
      crcerr = has (get_or body 1 0) 2;
    }

-- in form as read
unfoldable pub body_in_form : List ℕ → Bool
body_in_form body = zeros_above (get_or body 1 0) && agrees (grant_of body)

abbrev pub no_grant : Grant
no_grant = record { nodeid = 0; gnt = 0; gntval = false; linkerr = false; crcerr = false }

-- the numbers 8 to 10, then 11
abbrev pub grant_number : List ℕ → ℕ
grant_number s = formed_number grant_len grant_type body_in_form s

-- what reading s answers
abbrev pub read_grant : List ℕ → Answer Grant
read_grant s = answered (grant_number s) (grant_of (body_of grant_len s)) no_grant
