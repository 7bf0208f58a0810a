-- One slot more is replayed: the state, and the tables so far.
use mathlib.Core.Path.{◌≡◌, refl, ap, ◌∙◌}
use mathlib.Core.List.{List, ◌++◌}
use Prim.Native.Nat.{ℕ, ◌+◌, ◌*◌, ◌-◌, ◌≤◌}
use native.Mathlib.Nat.{le_refl, zero-mul}
use native.Mathlib.Numerals.{add-one}
use native.Mathlib.Omega.{arith}
use lib.ListN.{length, get_or, drop}
use borrow.Author.Tests.{le-leb}
use borrow.Rule.Slice.PartMut.{mid_of, put_mid, mid_len}
use Rattle.laws.specs.Bytes.{big_endian}
use Rattle.laws.specs.Parts.{parts}
use Rattle.laws.specs.Steps.{steps}
use Rattle.laws.proofs.Bytes.{length_big}
use Rattle.laws.proofs.Parts.{length_parts, next-part}
use Rattle.ports.specs.Modes.{mode_of}
use Rattle.ports.specs.declared.state.State.{State}
use Rattle.ports.specs.declared.state.Mode.{Mode}
use Rattle.ports.specs.Answer.{Stepped}
use Rattle.table_bytes.specs.Table.{table_len, table_bytes, table_put}
use Rattle.shelf.specs.Unanswered.{unanswered}
use Rattle.trace_parts.specs.Body.{read_fields, block_part}
use Rattle.trace_parts.specs.declared.body.Fields.{Fields}
use Rattle.replays.specs.Replay.{start_state, replay_slot, state_before, replayed}
use Rattle.replays.specs.Tables.{table_at, all_tables, all_len}

length_table : (m : ℕ) (sets : List ℕ) → length (table_bytes m sets) ≡ table_len m
length_table m sets = length_parts (λ i. big_endian 2 (get_or sets i 0)) 2 (λ i. length_big 2 (get_or sets i 0)) m

pub slot_replayed : (m n slots : ℕ) (body : List ℕ) (k : ℕ) (st : State) (fields : Fields) (mode : Mode) (block : List ℕ) (r : Stepped) → fields ≡ (read_fields m n body).fields → mode ≡ mode_of m fields.mode
    → block ≡ block_part m n slots k body → r ≡ unanswered m st st.due mode block → r ≡ replay_slot m n slots body k st
unfolding replay_slot
slot_replayed m n slots body k st fields mode block r is_read is-mode is_Block e = rw (← is_read, ← is-mode, ← is_Block) e

module _ (m n first slots : ℕ) (body : List ℕ) where
  -- the first k slots are replayed
  pub record Replayed (o : List ℕ) (k : ℕ) (tables : List ℕ) (state : State) : Type 0 where
    pub so_far : tables ≡ parts (table_at m n first slots body) k ++ drop (k * table_len m) o
    pub as_long : length tables ≡ length o
    pub state_there : state ≡ state_before m n slots body first k

  pub none_replayed : (o : List ℕ) (state : State) → state ≡ start_state m n body first → Replayed o 0 o state
  unfolding steps state_before
  none_replayed o state e = record { so_far = rw (zero-mul (table_len m)); as_long = refl; state_there = e }

  pub next_replayed : {o tables : List ℕ} {k : ℕ} {state : State} → Replayed o k tables state → (next : State) (last : List ℕ) → k * table_len m + table_len m ≤ length o
      → next ≡ (replay_slot m n slots body k state).state
      → last ≡ table_put m (replay_slot m n slots body k state).answer.sets (mid_of (k * table_len m) (length tables - k * table_len m) tables)
      → length (put_mid (k * table_len m) (length tables - k * table_len m) tables last) ≡ length tables
      → Replayed o (k + 1) (put_mid (k * table_len m) (length tables - k * table_len m) tables last) next
  unfolding steps state_before replayed table_put
  next_replayed {o} {tables} {k} {state} r next last room is put kept =
      let a = k * table_len m in
      let part = mid_of a (length tables - a) tables in
      let fits : table_len m ≤ length part = omega (arith, r.as_long, mid_len a (length tables) tables (le_refl (length tables))) in
      let same : last ≡ table_at m n first slots body k ++ drop (table_len m) part = (rw (le-leb _ _ fits) at put) ∙ rw r.state_there in
      record {
        so_far = next-part (table_at m n first slots body) (table_len m) (λ i. length_table m (replayed m n slots body first i).answer.sets) k tables o last r.so_far (omega (arith, r.as_long)) same;
        as_long = kept ∙ r.as_long;
        state_there = rw (add-one k) (is ∙ ap (λ (s : State). (replay_slot m n slots body k s).state) r.state_there);
      }

  pub all_replayed : {o tables : List ℕ} {k : ℕ} {state : State} → Replayed o k tables state → k ≡ slots → tables ≡ all_tables m n first slots body ++ drop (all_len m slots) o
  all_replayed r e = let all = rw e at r in all.so_far
