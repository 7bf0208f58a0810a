-- The ends of a slot call in the C form.
use mathlib.Core.Path.{◌≡◌, refl, ◌∙◌}
use mathlib.Core.Bool.{false}
use mathlib.Core.List.{List}
use Prim.Native.Nat.{ℕ}
use lib.ListN.{length}
use borrow.Author.Tests.{eq-eqb, ne_eqb}
use Rattle.std.specs.Prelude.{Result}
use Rattle.refusals.specs.declared.Refusal.{Refusal}
use Rattle.ports.specs.Modes.{mode_of}
use Rattle.ports.specs.Served.{stepped_of}
use Rattle.ports.specs.declared.served.Served.{Served}
use Rattle.ports.specs.declared.state.State.{State}
use Rattle.ports.specs.declared.state.Mode.{Mode}
use Rattle.ports.specs.Answer.{Stepped}
use Rattle.table_bytes.specs.State.{state_len, state_in, state_bytes}
use Rattle.table_bytes.specs.Table.{table_len, table_put}
use Rattle.table_bytes.proofs.Fits.{table_filled, state_read}
use Rattle.shelf.specs.Step.{stepped, output}
use Rattle.bellacush.specs.Slot.{word_of, state_after, table_after, fits, run, slot_word, slot_state, slot_table, slot_output}

-- a word, and what is left
pub told : {A B C : Type 0} → A → B × C → A × B × C
told word left = (word, left.0, left.1)

-- what is lent, after a slot that was declined and after one that was served
pub kept : (r : Stepped) (state table : List ℕ) → (r.answer.number ≡ 0 → ⊥) → (state ≡ state_after r state) × (table ≡ table_after r table)
unfolding state_after table_after
kept r state table some = rw (ne_eqb _ 0 some) (refl, refl)

pub stored : (m : ℕ) (r : Stepped) (state table last lastly : List ℕ) → r.answer.number ≡ 0 → length table ≡ table_len m → length r.answer.sets ≡ m → last ≡ state_bytes r.state
    → lastly ≡ table_put m r.answer.sets table → (last ≡ state_after r state) × (lastly ≡ table_after r table)
unfolding state_after table_after
stored m r state table last lastly none long rows are put = rw (eq-eqb _ 0 none) (are, put ∙ table_filled m table long r.answer.sets rows)

module _ (m : ℕ) (state : List ℕ) (slot mode : ℕ) (block : List ℕ) (link : ℕ) (out table : List ℕ) where
  -- the promise of a call that returns a word and leaves these bytes
  abbrev Left : ℕ → List ℕ → List ℕ → List ℕ → Type 0
  Left word s t o = (word ≡ slot_word m state slot mode block out table) × (s ≡ slot_state m state slot mode block out table) × (t ≡ slot_table m state slot mode block out table) × (o ≡ slot_output m state slot mode block link out table)

  unfit : fits m state slot mode block out table ≡ false → Left 8 state table out
  unfolding slot_word slot_state slot_table slot_output
  unfit no-fit = rw no-fit (refl, refl, refl, refl)

  pub wrong_state : (length state ≡ state_len → ⊥) → Left 8 state table out
  unfolding fits
  wrong_state other = unfit (rw (ne_eqb _ _ other))

  pub wrong_table : length state ≡ state_len → (length table ≡ table_len m → ⊥) → Left 8 state table out
  unfolding fits
  wrong_table same other = unfit (rw (eq-eqb _ _ same, ne_eqb _ _ other))

  pub ran : (st : State) (md : Mode) (r : Result Served Refusal) (o s t : List ℕ) (word : ℕ) → length state ≡ state_len → length table ≡ table_len m → st ≡ state_in state → md ≡ mode_of m mode
      → (stepped_of m st r ≡ stepped m st slot md block out) × (o ≡ output m st slot md block link out)
      → (word ≡ word_of (stepped_of m (state_in state) r).answer) × (s ≡ state_after (stepped_of m (state_in state) r) state) × (t ≡ table_after (stepped_of m (state_in state) r) table)
      → Left word s t o
  unfolding slot_word slot_state slot_table slot_output fits run
  ran st md r o s t word nine long is-st is-md (is-r, is-o) ends =
      let (is-w, is-s, is-t) = rw (← is-st) at ends in
      rw (eq-eqb _ _ nine, eq-eqb _ _ long, ← is-st ∙ state_read state nine, ← is-md, ← is-r) (is-w, is-s, is-t, is-o)
