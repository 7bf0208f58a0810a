-- A body, sealed: mode, I and J, the slot blocks, and their check.
use Rattle.std.specs.Prelude.{ℕ, ◌*◌, Bool, ◌&&◌, List, ◌++◌, eqb, length}
use Rattle.laws.specs.Bytes.{big_endian}
use Rattle.laws.specs.Tests.{between}
use Rattle.words.specs.Check.{checked}
use Rattle.frames.specs.Frame.{written}
use Rattle.lent.specs.Writer.{writer_number}
use Rattle.trace_parts.specs.Layout.{block_len, body_len, most_slots}
use Rattle.trace_parts.specs.Body.{formed}
use Rattle.trace_parts.specs.declared.body.Fields.{Fields}

abbrev pub field_bytes : Fields → List ℕ
field_bytes f = big_endian 1 f.mode ++ big_endian 1 f.initiator ++ big_endian 1 f.target

unfoldable pub body_of : Fields → List ℕ → List ℕ
body_of f blocks = checked (field_bytes f ++ blocks)

-- fields, and blocks of so many slots, for n ports, where at most m are allowed
unfoldable pub body_fits : ℕ → ℕ → ℕ → Fields → List ℕ → Bool
body_fits m n slots f blocks = between 1 m n && (between 1 (most_slots n) slots && (eqb (length blocks) (slots * block_len n) && formed n f))

abbrev pub seal_number : ℕ → ℕ → ℕ → Fields → List ℕ → List ℕ → ℕ
seal_number m n slots f blocks out = writer_number (body_fits m n slots f blocks) (body_len n slots) out

abbrev pub seal_output : ℕ → ℕ → ℕ → Fields → List ℕ → List ℕ → List ℕ
seal_output m n slots f blocks out = written (seal_number m n slots f blocks out) (body_len n slots) (body_of f blocks) out
