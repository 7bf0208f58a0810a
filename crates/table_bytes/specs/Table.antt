-- A table as bytes: two bytes for each of its m sets, the high byte first.
use Rattle.std.specs.Prelude.{ℕ, ◌*◌, cond, List, ◌++◌, leb, length, get_or, drop, replicate}
use Rattle.laws.specs.Bytes.{big_endian, field}
use Rattle.laws.specs.Parts.{parts}
use Rattle.laws.specs.Sets.{tabled}

abbrev pub table_len : ℕ → ℕ
table_len m = m * 2

-- the m sets that the bytes are
unfoldable pub table_of : ℕ → List ℕ → List ℕ
table_of m bytes = tabled m (field 2 bytes) m

-- the same, and no pair where the bytes are too few
unfoldable pub table_in : ℕ → List ℕ → List ℕ
table_in m bytes = cond (leb (table_len m) (length bytes)) (table_of m bytes) (replicate m 0)

-- the bytes of m sets
abbrev pub table_bytes : ℕ → List ℕ → List ℕ
table_bytes m sets = parts (λ i. big_endian 2 (get_or sets i 0)) m

-- bytes that a table was put at the front of, and bytes as they were where they are too few
unfoldable pub table_put : ℕ → List ℕ → List ℕ → List ℕ
table_put m sets bytes = cond (leb (table_len m) (length bytes)) (table_bytes m sets ++ drop (table_len m) bytes) bytes
