-- The contents: ports, body count, an entry for each body, and their check. They are read in any list that starts with them.
use Rattle.std.specs.Prelude.{ℕ, zero, suc, ◌+◌, ◌*◌, Bool, ◌&&◌, cond, List, eqb, ltb, leb, length, take}
use Rattle.laws.specs.Bytes.{number_at}
use Rattle.laws.specs.Steps.{every}
use Rattle.laws.specs.Tests.{between}
use Rattle.words.specs.Check.{intact}
use Rattle.refusals.specs.Numbers.{Answer}
use Rattle.trace_parts.specs.Layout.{head_len, entry_len, contents_len, body_len, most_slots, most_bodies}
use Rattle.trace_parts.specs.declared.contents.Entry.{Entry}
use Rattle.trace_parts.specs.declared.contents.Described.{Described}
use Rattle.trace_parts.specs.declared.contents.Head.{Head}

unfoldable pub ports_of : List ℕ → ℕ
ports_of s = number_at 1 0 s

unfoldable pub count_of : List ℕ → ℕ
count_of s = number_at 2 1 s

-- where entry k stands; its first slot, number of slots, and offset
abbrev pub entry_at : ℕ → ℕ
entry_at k = head_len + k * entry_len

unfoldable pub entry_of : List ℕ → ℕ → Entry
entry_of s k = record { first = number_at 4 (entry_at k) s; slots = number_at 2 (entry_at k + 4) s; offset = number_at 4 (entry_at k + 6) s }

-- the bytes of its body
abbrev pub entry_body : List ℕ → ℕ → ℕ
entry_body s k = body_len (ports_of s) (entry_of s k).slots

-- where the contents end, and where body k does
abbrev pub contents_end : List ℕ → ℕ
contents_end s = contents_len (count_of s)

abbrev pub body_end : List ℕ → ℕ → ℕ
body_end s k = (entry_of s k).offset + entry_body s k

-- where body k has to start: where what stands before it ends; at the count, where the file has to end
unfoldable pub due : List ℕ → ℕ → ℕ
due s zero = contents_end s
due s (suc k) = body_end s k

unfoldable pub entry_sound : List ℕ → ℕ → Bool
entry_sound s k = between 1 (most_slots (ports_of s)) (entry_of s k).slots && eqb (entry_of s k).offset (due s k)

-- s starts with contents of proper form and right check, where at most m ports are allowed
unfoldable pub contents_sound : ℕ → List ℕ → Bool
contents_sound m s =
    leb (contents_end s) (length s)
    && (intact (take (contents_end s) s) && (between 1 m (ports_of s) && (leb (count_of s) most_bodies && every (entry_sound s) (count_of s))))

-- they are those of a file of len bytes
unfoldable pub contents_fit : ℕ → ℕ → List ℕ → Bool
contents_fit m len s = contents_sound m s && eqb (due s (count_of s)) len

-- ---- what the calls answer

abbrev pub head_of : List ℕ → Head
head_of s = record { ports = ports_of s; count = count_of s }

abbrev pub no_head : Head
no_head = record { ports = 0; count = 0 }

-- ports and body count if a test holds, else 14 and zeros
abbrev pub head_if : Bool → List ℕ → Answer Head
head_if b s = cond b (record { number = 0; fields = head_of s }) (record { number = 14; fields = no_head })

abbrev pub contents_head : ℕ → List ℕ → Answer Head
contents_head m s = head_if (contents_sound m s) s

abbrev pub file_head : ℕ → ℕ → List ℕ → Answer Head
file_head m len s = head_if (contents_fit m len s) s

abbrev pub described : List ℕ → ℕ → Described
described s k = record { entry = entry_of s k; len = entry_body s k }

abbrev pub no_description : Described
no_description = record { entry = record { first = 0; slots = 0; offset = 0 }; len = 0 }

-- entry k and the bytes of its body if a test holds, else 14 and zeros
abbrev pub entry_if : Bool → List ℕ → ℕ → Answer Described
entry_if b s k = cond b (record { number = 0; fields = described s k }) (record { number = 14; fields = no_description })

-- what is asked of bytes that show entry k: that they hold it, that the ports are a port count, and that k is below the body count
unfoldable pub has_entry : ℕ → List ℕ → ℕ → Bool
has_entry m s k = leb (entry_at k + entry_len) (length s) && (between 1 m (ports_of s) && ltb k (count_of s))

abbrev pub read_entry : ℕ → List ℕ → ℕ → Answer Described
read_entry m s k = entry_if (has_entry m s k) s k

-- the bytes of the contents that start so; 0 where the count is not there or too great
unfoldable pub contents_size : List ℕ → ℕ
contents_size s = cond (leb head_len (length s) && leb (count_of s) most_bodies) (contents_end s) 0

-- the start of a file that a program reads first: three bytes, and as many in all as they say
abbrev pub start_read : List ℕ → List ℕ
start_read s = take (contents_size (take head_len s)) s
