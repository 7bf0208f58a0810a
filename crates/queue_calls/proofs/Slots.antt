-- The ends of a slot call over the queues in the C form.
use mathlib.Core.Path.{◌≡◌, refl, ◌∙◌}
use mathlib.Core.Bool.{false}
use mathlib.Core.List.{List}
use Prim.Native.Nat.{ℕ}
use lib.ListN.{length}
use borrow.Author.Tests.{eq-eqb, ne_eqb}
use Rattle.std.specs.Prelude.{Result}
use Rattle.refusals.specs.declared.Refusal.{Refusal}
use Rattle.ports.specs.Modes.{mode_of}
use Rattle.ports.specs.declared.state.State.{State}
use Rattle.ports.specs.declared.state.Mode.{Mode}
use Rattle.ports.specs.Served.{stepped_of}
use Rattle.ports.specs.declared.served.Served.{Served}
use Rattle.table_bytes.specs.State.{state_len, state_in}
use Rattle.table_bytes.specs.Table.{table_len}
use Rattle.table_bytes.proofs.Fits.{state_read}
use Rattle.bellacush.specs.Slot.{word_of, state_after, table_after}
use Rattle.queues.specs.Serving.{answered, slot_words, slot_output}
use Rattle.queue_calls.specs.Slot.{lent_fit, run, call_word, call_state, call_table, call_records, call_output}

module _ (m c w : ℕ) (state : List ℕ) (slot mode : ℕ) (words pool out table : List ℕ) where
  -- the promise of a call that returns a word and leaves these
  abbrev Left : ℕ → List ℕ → List ℕ → List ℕ → List ℕ → Type 0
  Left word s t r o =
      (word ≡ call_word m c w state slot mode words pool out table) × (s ≡ call_state m c w state slot mode words pool out table) × (t ≡ call_table m c w state slot mode words pool out table)
      × (r ≡ call_records m c w state slot mode words pool out table) × (o ≡ call_output m c w state slot mode words pool out table)

  unfit : lent_fit m state table ≡ false → Left 8 state table words out
  unfolding call_word call_state call_table call_records call_output
  unfit no-fit = rw no-fit (refl, refl, refl, refl, refl)

  pub wrong_state : (length state ≡ state_len → ⊥) → Left 8 state table words out
  unfolding lent_fit
  wrong_state other = unfit (rw (ne_eqb _ _ other))

  pub wrong_table : length state ≡ state_len → (length table ≡ table_len m → ⊥) → Left 8 state table words out
  unfolding lent_fit
  wrong_table same other = unfit (rw (eq-eqb _ _ same, ne_eqb _ _ other))

  pub ran : (st : State) (md : Mode) (r : Result Served Refusal) (u o s t : List ℕ) (word : ℕ) → length state ≡ state_len → length table ≡ table_len m → st ≡ state_in state → md ≡ mode_of m mode
      → (stepped_of m st r ≡ answered m c w words st slot md pool out) × (u ≡ slot_words m c w words st slot md pool out) × (o ≡ slot_output m c w words st slot md pool out)
      → (word ≡ word_of (stepped_of m (state_in state) r).answer) × (s ≡ state_after (stepped_of m (state_in state) r) state) × (t ≡ table_after (stepped_of m (state_in state) r) table)
      → Left word s t u o
  unfolding call_word call_state call_table call_records call_output lent_fit run
  ran st md r u o s t word nine long is-st is-md (is-r, is-u, is-o) ends =
      let (is-w, is-s, is-t) = rw (← is-st) at ends in
      rw (eq-eqb _ _ nine, eq-eqb _ _ long, ← is-st ∙ state_read state nine, ← is-md, ← is-r) (is-w, is-s, is-t, is-u, is-o)
