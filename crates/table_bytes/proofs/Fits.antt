-- Bytes that are just a table's, or a state's.
use mathlib.Core.Path.{◌≡◌, refl, sym}
use mathlib.Core.List.{List, [], append-nil}
use Prim.Native.Nat.{ℕ}
use native.Mathlib.Nat.{le_of_eq}
use lib.ListN.{length, drop, drop_of_length-le}
use borrow.Author.Tests.{le-leb}
use Rattle.laws.specs.Bytes.{big_endian, row}
use Rattle.ports.specs.declared.state.State.{State}
use Rattle.table_bytes.specs.State.{state_len, state_of, state_in, state_bytes}
use Rattle.table_bytes.specs.Table.{table_len, table_of, table_in, table_put}

module _ (m : ℕ) (bytes : List ℕ) (just : length bytes ≡ table_len m) where
  pub table_read : table_in m bytes ≡ table_of m bytes
  unfolding table_in
  table_read = rw (le-leb _ _ (le_of_eq (sym just)))

  pub table_filled : (sets : List ℕ) → length sets ≡ m → table_put m sets bytes ≡ row 2 sets
  unfolding table_put
  table_filled sets rows =
      let none : drop (table_len m) bytes ≡ [] = drop_of_length-le bytes (le_of_eq just) in
      rw (le-leb _ _ (le_of_eq (sym just)), none, append-nil, rows)

pub state_read : (bytes : List ℕ) → length bytes ≡ state_len → state_in bytes ≡ state_of bytes
unfolding state_in
state_read bytes just = rw (le-leb _ _ (le_of_eq (sym just)))

pub length_state : (st : State) → length (state_bytes st) ≡ state_len
unfolding state_bytes big_endian
length_state st = refl
