-- A table's bytes are that table again, and a state's bytes that state.
use mathlib.Core.Path.{◌≡◌, ◌∙◌}
use mathlib.Core.List.{List}
use Prim.Native.Nat.{ℕ, ◌^◌, ◌<◌}
use native.Mathlib.Nat.{mod-eq_of_lt}
use lib.ListN.{length, get_or, drop}
use lib.Seq.{ext_get_or}
use Rattle.laws.specs.Bytes.{Bytes, big_endian, row, field}
use Rattle.laws.specs.Sets.{tabled}
use Rattle.laws.proofs.Rows.{length_tabled, row-tabled}
use Rattle.laws.proofs.Bytes.{field_row, number_big, number_small, bytes_drop}
use Rattle.ports.specs.declared.state.State.{State}
use Rattle.table_bytes.specs.State.{state_of, state_bytes, Fits}
use Rattle.table_bytes.specs.Table.{table_of}

pub table_reads_back : (sets : List ℕ) → ((i : ℕ) → get_or sets i 0 < 256 ^ 2) → table_of (length sets) (row 2 sets) ≡ sets
unfolding table_of
table_reads_back sets small = ext_get_or 0 _ _ (length_tabled m _ m) same
  where
    m : ℕ
    m = length sets

    same : (i : ℕ) → i < length (tabled m (field 2 (row 2 sets)) m) → get_or (tabled m (field 2 (row 2 sets)) m) i 0 ≡ get_or sets i 0
    same i l = let i< : i < m = rw (length_tabled m (field 2 (row 2 sets)) m) at l in row-tabled m (field 2 (row 2 sets)) m i i< i< ∙ field_row 2 sets small i i<

pub state_reads_back : (st : State) → Fits st → state_of (state_bytes st) ≡ st
unfolding state_of state_bytes big_endian
state_reads_back st f =
    let n = mod-eq_of_lt f.ports in
    let i = mod-eq_of_lt f.initiator in
    let j = mod-eq_of_lt f.target in
    let d = number_big 4 st.due f.due in
    let o = number_big 2 st.owners f.owners in
    λ k. record { ports = n k; initiator = record { 0 = i k }; target = record { 0 = j k }; due = d k; owners = o k }

-- The slot due that bytes hold is of 32 bits, and the owners of 16.
pub due_small : (s : List ℕ) → Bytes s → (state_of s).due < 2 ^ 32
unfolding state_of
due_small s bytes = number_small 4 0 (drop 3 s) (bytes_drop 3 s bytes)

pub owners_small : (s : List ℕ) → Bytes s → (state_of s).owners < 2 ^ 16
unfolding state_of
owners_small s bytes = number_small 2 0 (drop 7 s) (bytes_drop 7 s bytes)
