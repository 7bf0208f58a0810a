-- A body: mode, I, J, the slot blocks, and their check.
use Rattle.std.specs.Prelude.{ℕ, ◌+◌, ◌*◌, Bool, ◌&&◌, cond, List, [], eqb, ltb, leb, length}
use Rattle.laws.specs.Bytes.{number_at}
use Rattle.laws.specs.Parts.{part}
use Rattle.laws.specs.Tests.{between}
use Rattle.words.specs.Check.{intact}
use Rattle.refusals.specs.Numbers.{Answer}
use Rattle.trace_parts.specs.Layout.{fields_len, block_len, body_len, most_mode, most_slots}
use Rattle.trace_parts.specs.declared.body.Fields.{Fields}

unfoldable pub fields_of : List ℕ → Fields
fields_of body = record { mode = number_at 1 0 body; initiator = number_at 1 1 body; target = number_at 1 2 body }

-- fields of proper form, for n ports
unfoldable pub formed : ℕ → Fields → Bool
formed n f = leb f.mode (most_mode n) && (ltb f.initiator n && ltb f.target n)

-- as many bytes as a body of so many slots has for n ports, where at most m are allowed
unfoldable pub complete : ℕ → ℕ → ℕ → List ℕ → Bool
complete m n slots body = between 1 m n && (between 1 (most_slots n) slots && eqb (length body) (body_len n slots))

-- a body for its entry: complete, of right check, and of proper form
unfoldable pub body_sound : ℕ → ℕ → ℕ → List ℕ → Bool
body_sound m n slots body = complete m n slots body && (intact body && formed n (fields_of body))

-- ---- what the calls answer

abbrev pub no_fields : Fields
no_fields = record { mode = 0; initiator = 0; target = 0 }

-- the fields that stand in a body for n ports, if they are of proper form
unfoldable pub read_fields : ℕ → ℕ → List ℕ → Answer Fields
read_fields m n body =
    cond (leb fields_len (length body) && (between 1 m n && formed n (fields_of body)))
    (record { number = 0; fields = fields_of body })
    (record { number = 14; fields = no_fields })

-- the block of slot k in a complete body: its number, where the part starts, and the part, empty where the call declines
abbrev pub block_at : ℕ → ℕ → ℕ
block_at n k = fields_len + k * block_len n

unfoldable pub has_block : ℕ → ℕ → ℕ → ℕ → List ℕ → Bool
has_block m n slots k body = complete m n slots body && ltb k slots

abbrev pub block_number : ℕ → ℕ → ℕ → ℕ → List ℕ → ℕ
block_number m n slots k body = cond (has_block m n slots k body) 0 14

abbrev pub block_start : ℕ → ℕ → ℕ → ℕ → List ℕ → ℕ
block_start m n slots k body = cond (has_block m n slots k body) (block_at n k) 0

abbrev pub block_part : ℕ → ℕ → ℕ → ℕ → List ℕ → List ℕ
block_part m n slots k body = cond (has_block m n slots k body) (part (block_at n k) (block_len n) body) []
