-- One call: what it takes from a queue and what it leaves is what was there and what it brings. Records in order stay in order, and a pool stays theirs.
use mathlib.Core.Path.{◌≡◌, refl, sym, ap, ◌∙◌}
use mathlib.Core.Bool.{Bool, true, false, cond}
use mathlib.Core.List.{List, [], ◌++◌, append-nil}
use Prim.Native.Nat.{ℕ, ◌*◌}
use lib.Dec.{eqb, ltb}
use lib.ListN.{length, take, drop, replicate, take-append-drop}
use borrow.Author.Tests.{ne_eqb, eqb-true}
use Rattle.laws.proofs.Tests.{arms}
use Rattle.ports.specs.Due.{declined}
use Rattle.ports.specs.declared.state.State.{State}
use Rattle.ports.specs.declared.state.Mode.{Mode}
use Rattle.ports.specs.Answer.{Stepped}
use Rattle.demands.proofs.Refusal.{declined_does_nothing}
use Rattle.queue_records.specs.Order.{in_order}
use Rattle.queue_records.proofs.Pools.{length_stored}
use Rattle.queue_entries.specs.Adding.{next_cell, add_number, add_words, add_pool}
use Rattle.queue_entries.proofs.Adds.{room, next-room}
use Rattle.queue_steps.specs.Step.{requests, scheduled, fits, roomy, stepped}
use Rattle.queues.specs.Serving.{slot_words, slot_output}
use Rattle.queued.specs.Shelf.{Shelf, Call, Cell, Slot, number, next, served, queue, grants, comes, goes}
use Rattle.queued.proofs.Added.{added_queue}
use Rattle.queued.proofs.Moved.{served_queue}
use Rattle.queued.proofs.Orders.{added_in_order, served-in_order}

-- a slot that is declined leaves the state
module _ (m c w : ℕ) (words : List ℕ) (st : State) (slot : ℕ) (mode : Mode) (len room : ℕ) where
  abbrev run : Stepped
  run = scheduled m words st slot mode

  run_keeps : (run.answer.number ≡ 0 → ⊥) → run.state ≡ st
  run_keeps some = (declined_does_nothing m st (record { slot = slot; mode = mode; req = requests m words; pre = replicate m 0 }) some).state_kept

  roomy_keeps : ((roomy m w st room run).answer.number ≡ 0 → ⊥) → (roomy m w st room run).state ≡ st
  unfolding roomy declined
  roomy_keeps = arms (λ (z : Stepped). (z.answer.number ≡ 0 → ⊥) → z.state ≡ st) (eqb run.answer.number 0) _ _
      (λ e. arms (λ (z : Stepped). (z.answer.number ≡ 0 → ⊥) → z.state ≡ st) (ltb room (st.ports * w)) _ _ (λ _ _. refl) (λ _ some. absurd (some (eqb-true _ 0 e))))
      (λ _ some. run_keeps some)

  pub not_served_keeps : ((stepped m c w words st slot mode len room).answer.number ≡ 0 → ⊥) → (stepped m c w words st slot mode len room).state ≡ st
  unfolding stepped declined
  not_served_keeps = arms (λ (z : Stepped). (z.answer.number ≡ 0 → ⊥) → z.state ≡ st) (fits m c w words st len) _ _ (λ _. roomy_keeps) (λ _ _. refl)

module _ (m c w : ℕ) where
  pub one_call : (i t : ℕ) (s : Shelf) (x : Call) → goes m c w i t s x ++ queue m c w i t (next m c w s x) ≡ queue m c w i t s ++ comes m c w i t s x
  unfolding next comes goes grants number served
  one_call i t s (Cell j u bytes) = added_queue m c w s.words j u bytes s.pool i t
  one_call i t s (Slot slot mode out) =
      rw (served_queue m c w s.words s.state slot mode s.pool out i t) (go (grants m c w i t s (Slot slot mode out)) (queue m c w i t s))
    where
      go : (b : Bool) (l : List (List ℕ)) → cond b (take 1 l) [] ++ cond b (drop 1 l) l ≡ l ++ []
      go true l = take-append-drop 1 l ∙ sym (append-nil l)
      go false l = sym (append-nil l)

  pub stays_in_order : (s : Shelf) (x : Call) → in_order m c s.words ≡ true → in_order m c (next m c w s x).words ≡ true
  unfolding next
  stays_in_order s (Cell i t bytes) = added_in_order m c w s.words i t bytes s.pool
  stays_in_order s (Slot slot mode out) = served-in_order m c w s.words s.state slot mode s.pool out

  pub same_pool : (s : Shelf) (x : Call) → length (next m c w s x).pool ≡ length s.pool
  unfolding next add_pool
  same_pool s (Cell i t bytes) = arms (λ (l : List ℕ). length l ≡ length s.pool) (eqb (add_number m c w s.words i t bytes s.pool) 0) _ _
      (λ e.
      let r = room m c w s.words i t bytes s.pool (eqb-true _ 0 e) in
      length_stored w s.pool (next_cell m s.words) bytes r.whole (next-room m c w s.words i t bytes s.pool r))
      (λ _. refl)
  same_pool s (Slot slot mode out) = refl

  -- A call that is declined leaves records, pool and state as they were, and a slot its output too.
  pub declined_nothing : (s : Shelf) (x : Call) → (number m c w s x ≡ 0 → ⊥) → next m c w s x ≡ s
  unfolding next number add_words add_pool slot_words
  declined_nothing s (Cell i t bytes) some = rw (ne_eqb _ 0 some)
  declined_nothing s (Slot slot mode out) some =
      ap (λ (st : State). record { words = slot_words m c w s.words s.state slot mode s.pool out; pool = s.pool; state = st }) (not_served_keeps m c w s.words s.state slot mode (length s.pool) (length out) some)
      ∙ rw (ne_eqb _ 0 some)

  pub declined-output : (s : Shelf) (slot : ℕ) (mode : Mode) (out : List ℕ) → (number m c w s (Slot slot mode out) ≡ 0 → ⊥)
      → slot_output m c w s.words s.state slot mode s.pool out ≡ out
  unfolding number slot_output
  declined-output s slot mode out some = rw (ne_eqb _ 0 some)
