-- What the writer takes and writes: contents, of ports n, first slots and slot counts; and a trace, of these and the bodies joined.
use Rattle.std.specs.Prelude.{ℕ, ◌+◌, Bool, ◌&&◌, List, ◌++◌, eqb, leb, length, get_or}
use Rattle.laws.specs.Steps.{steps, every}
use Rattle.laws.specs.Tests.{between}
use Rattle.laws.specs.Bytes.{big_endian}
use Rattle.laws.specs.Parts.{parts, part}
use Rattle.words.specs.Check.{checked}
use Rattle.frames.specs.Frame.{written}
use Rattle.lent.specs.Writer.{writer_number}
use Rattle.trace_parts.specs.Layout.{contents_len, body_len, most_slots, most_bodies}
use Rattle.trace_parts.specs.Body.{body_sound}
use Rattle.trace_parts.specs.declared.contents.Entry.{Entry}

-- where body k starts among the bodies joined, and body k of them
unfoldable pub start_of : ℕ → List ℕ → ℕ → ℕ
start_of n slots = steps (λ k at. at + body_len n (get_or slots k 0)) 0

abbrev pub joined : ℕ → List ℕ → List ℕ → ℕ → List ℕ
joined n slots bodies k = part (start_of n slots k) (body_len n (get_or slots k 0)) bodies

-- ---- the contents

abbrev pub head_bytes : ℕ → ℕ → List ℕ
head_bytes n count = big_endian 1 n ++ big_endian 2 count

abbrev pub entry_bytes : Entry → List ℕ
entry_bytes e = big_endian 4 e.first ++ big_endian 2 e.slots ++ big_endian 4 e.offset

-- the entry of body k
unfoldable pub entry_for : ℕ → List ℕ → List ℕ → ℕ → Entry
entry_for n firsts slots k = record { first = get_or firsts k 0; slots = get_or slots k 0; offset = contents_len (length slots) + start_of n slots k }

abbrev pub entries_for : ℕ → List ℕ → List ℕ → List ℕ
entries_for n firsts slots = parts (λ k. entry_bytes (entry_for n firsts slots k)) (length slots)

unfoldable pub contents_of : ℕ → List ℕ → List ℕ → List ℕ
contents_of n firsts slots = checked (head_bytes n (length slots) ++ entries_for n firsts slots)

-- ports, first slots and slot counts of a trace, where at most m ports are allowed
unfoldable pub counts_fit : ℕ → ℕ → List ℕ → List ℕ → Bool
counts_fit m n firsts slots =
    between 1 m n
    && (eqb (length firsts) (length slots)
    && (leb (length slots) most_bodies && every (λ k. between 1 (most_slots n) (get_or slots k 0)) (length slots)))

abbrev pub contents_number : ℕ → ℕ → List ℕ → List ℕ → List ℕ → ℕ
contents_number m n firsts slots out = writer_number (counts_fit m n firsts slots) (contents_len (length slots)) out

abbrev pub contents_output : ℕ → ℕ → List ℕ → List ℕ → List ℕ → List ℕ
contents_output m n firsts slots out =
    written (contents_number m n firsts slots out) (contents_len (length slots)) (contents_of n firsts slots) out

-- ---- a trace

unfoldable pub trace_of : ℕ → List ℕ → List ℕ → List ℕ → List ℕ
trace_of n firsts slots bodies = contents_of n firsts slots ++ bodies

abbrev pub trace_len : List ℕ → List ℕ → ℕ
trace_len slots bodies = contents_len (length slots) + length bodies

-- the bodies joined are sound, each for its slot count, and nothing follows them
unfoldable pub joined_sound : ℕ → ℕ → List ℕ → List ℕ → ℕ → Bool
joined_sound m n slots bodies k = body_sound m n (get_or slots k 0) (joined n slots bodies k)

unfoldable pub parts_sound : ℕ → ℕ → List ℕ → List ℕ → List ℕ → Bool
parts_sound m n firsts slots bodies =
    counts_fit m n firsts slots
    && (eqb (start_of n slots (length slots)) (length bodies) && every (joined_sound m n slots bodies) (length slots))

abbrev pub write_number : ℕ → ℕ → List ℕ → List ℕ → List ℕ → List ℕ → ℕ
write_number m n firsts slots bodies out = writer_number (parts_sound m n firsts slots bodies) (trace_len slots bodies) out

abbrev pub write_output : ℕ → ℕ → List ℕ → List ℕ → List ℕ → List ℕ → List ℕ
write_output m n firsts slots bodies out =
    written (write_number m n firsts slots bodies out) (trace_len slots bodies) (trace_of n firsts slots bodies) out
