-- When the records are in order, on shelves of at most m ports and with pools of at most c cells.
use Rattle.std.specs.Prelude.{ℕ, ◌*◌, Bool, not, ◌&&◌, List, eqb, ltb, leb, length}
use Rattle.laws.specs.Steps.{every}
use Rattle.laws.specs.Tests.{between}
use Rattle.queue_records.specs.Entries.{cell_of, initiator_of, target_of, of_cell, those}
use Rattle.queue_records.specs.Records.{records_len, ports_of, cells_of, count_of, entries_of}

-- the greatest number of cells in a pool, and the bytes of a cell
abbrev pub most_cells : ℕ
most_cells = 960

abbrev pub cell_len : ℕ
cell_len = 64

-- 1 to m ports, 1 to c cells, no more held than there are, and an entry for each
unfoldable pub head_in_order : ℕ → ℕ → List ℕ → Bool
head_in_order m c words =
    between 1 m (ports_of words) && (between 1 c (cells_of words) && (leb (count_of words) (cells_of words) && eqb (length words) (records_len (cells_of words))))

-- the entry's cell is one of the pool, and its pair one of the shelf
abbrev pub placed : ℕ → ℕ → ℕ → ℕ → Bool
placed m ports cells e = ltb (cell_of m e) cells && (ltb (initiator_of m e) ports && ltb (target_of m e) ports)

-- one entry is of cell x
abbrev pub once : ℕ → List ℕ → ℕ → Bool
once m entries x = eqb (length (those (of_cell m x) entries)) 1

-- no entry is out of place, and every cell of the pool has one
unfoldable pub entries_in_order : ℕ → ℕ → List ℕ → Bool
entries_in_order m ports entries =
    eqb (length (those (λ e. not (placed m ports (length entries) e)) entries)) 0 && every (once m entries) (length entries)

unfoldable pub in_order : ℕ → ℕ → List ℕ → Bool
in_order m c words = head_in_order m c words && entries_in_order m (ports_of words) (entries_of words)

-- the records are in order, and a pool of so many bytes is the one that they were made for, of cells of w bytes
unfoldable pub usable : ℕ → ℕ → ℕ → List ℕ → ℕ → Bool
usable m c w words len = in_order m c words && eqb len (cells_of words * w)
