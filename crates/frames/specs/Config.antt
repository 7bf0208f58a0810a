-- The configuration frame, 11 bytes: type 1, req, pre, ben, qen, check.
use Rattle.std.specs.Prelude.{ℕ, List, [], ◌∷◌}
use Rattle.laws.specs.Bytes.{row, field}
use Rattle.refusals.specs.Numbers.{Answer}
use Rattle.frames.specs.Width.{narrow}
use Rattle.frames.specs.Frame.{sealed, body_of, form_number, answered, room_number, written}
use Rattle.frames.specs.declared.config.Config.{Config}

abbrev pub config_len : ℕ
config_len = 11

abbrev pub config_type : ℕ
config_type = 1

abbrev pub config_fields : Config → List ℕ
config_fields c = c.req ∷ c.pre ∷ c.ben ∷ c.qen ∷ []

unfoldable pub config_frame : Config → List ℕ
config_frame c = sealed config_type (row narrow (config_fields c))

-- the fields, of w bytes each, that stand in a body
unfoldable pub config_of : ℕ → List ℕ → Config
config_of w body = record { req = field w body 0; pre = field w body 1; ben = field w body 2; qen = field w body 3 }

abbrev pub no_config : Config
no_config = record { req = 0; pre = 0; ben = 0; qen = 0 }

-- what reading s answers
abbrev pub read_config : List ℕ → Answer Config
read_config s = answered (form_number config_len config_type s) (config_of narrow (body_of config_len s)) no_config

-- what writing c to an output answers, and what the output then holds
abbrev pub write_config_number : List ℕ → ℕ
write_config_number out = room_number config_len out

abbrev pub write_config_output : Config → List ℕ → List ℕ
write_config_output c out = written (write_config_number out) config_len (config_frame c) out
