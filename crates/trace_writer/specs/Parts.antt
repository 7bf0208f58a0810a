-- What is read of a trace, in the form that the writer takes.
use Rattle.std.specs.Prelude.{ℕ, ◌-◌, List, [], ◌∷◌, length, drop}
use Rattle.laws.specs.Parts.{part, parts}
use Rattle.trace_parts.specs.Layout.{fields_len, check_len}
use Rattle.trace_parts.specs.Contents.{count_of, entry_of, contents_end}

-- f 0, f 1, up to f (n - 1)
abbrev pub listed : (ℕ → ℕ) → ℕ → List ℕ
listed f = parts (λ k. f k ∷ [])

abbrev pub firsts_of : List ℕ → List ℕ
firsts_of s = listed (λ k. (entry_of s k).first) (count_of s)

abbrev pub slots_of : List ℕ → List ℕ
slots_of s = listed (λ k. (entry_of s k).slots) (count_of s)

abbrev pub bodies_of : List ℕ → List ℕ
bodies_of s = drop (contents_end s) s

-- the blocks of a body
abbrev pub blocks_of : List ℕ → List ℕ
blocks_of body = part fields_len (length body - fields_len - check_len) body
