-- A slot that is served: no target is granted twice, so no more leave than there are targets; and what the call leaves.
use mathlib.Core.Path.{◌≡◌}
use mathlib.Core.Bool.{true}
use mathlib.Core.List.{List}
use Prim.Native.Nat.{ℕ, ◌*◌, ◌≤◌, ◌<◌}
use lib.ListN.{length, replicate}
use borrow.Author.Tests.{eq-eqb, ne_eqb}
use Rattle.ports.specs.declared.state.State.{State}
use Rattle.ports.specs.declared.state.Mode.{Mode}
use Rattle.ports.specs.Answer.{Stepped}
use Rattle.demands.proofs.Connections.{no_target_twice}
use Rattle.queue_records.specs.Records.{ports_of, held_of}
use Rattle.queue_records.specs.Order.{usable}
use Rattle.queue_steps.specs.Step.{requests, stepped}
use Rattle.queue_steps.proofs.Serves.{Served, served}
use Rattle.queues.specs.Parting.{leaving, forwarded}
use Rattle.queues.specs.Serving.{moved, slot_words, slot_output}
use Rattle.queues.proofs.Grants.{Lone, lone_few}

module _ (m c w : ℕ) (words : List ℕ) (st : State) (len slot : ℕ) (mode : Mode) (room : ℕ) (s : Served m c w words st len slot mode room) where
  pub lone : Lone m (stepped m c w words st slot mode len room).answer.sets
  lone = rw s.is_run (no_target_twice m st (record { slot = slot; mode = mode; req = requests m words; pre = replicate m 0 }))

  few : 0 < m → length (leaving m (stepped m c w words st slot mode len room).answer.sets (held_of words)) ≤ m
  few more = lone_few m more _ (held_of words) lone

module _ (m c w : ℕ) (words : List ℕ) (st : State) (slot : ℕ) (mode : Mode) (pool out : List ℕ) where
  abbrev Left : Stepped → List ℕ → List ℕ → Type 0
  Left r u o = (r ≡ stepped m c w words st slot mode (length pool) (length out)) × (u ≡ slot_words m c w words st slot mode pool out) × (o ≡ slot_output m c w words st slot mode pool out)

  pub not_served : (r : Stepped) → r ≡ stepped m c w words st slot mode (length pool) (length out) → (r.answer.number ≡ 0 → ⊥) → Left r words out
  unfolding slot_words slot_output
  not_served r is some = (is, rw (← is, ne_eqb r.answer.number 0 some), rw (← is, ne_eqb r.answer.number 0 some))

  pub can_move : 0 < m → (r : Stepped) → r ≡ stepped m c w words st slot mode (length pool) (length out) → r.answer.number ≡ 0
      → (usable m c w words (length pool) ≡ true) × (ports_of words * w ≤ length out) × (length (leaving m r.answer.sets (held_of words)) ≤ m)
  can_move more r is none =
      let s = served m c w words st (length pool) slot mode (length out) (rw is at none) in
      (s.fit, s.place, rw is (few m c w words st (length pool) slot mode (length out) s more))

  pub is_served : (r : Stepped) (u o : List ℕ) → r ≡ stepped m c w words st slot mode (length pool) (length out) → r.answer.number ≡ 0
      → (u ≡ moved m r.answer.sets words) × (o ≡ forwarded m w pool (leaving m r.answer.sets (held_of words)) out) → Left r u o
  unfolding slot_words slot_output
  is_served r u o is none (left, wrote) = (is, rw (← is, eq-eqb r.answer.number 0 none) left, rw (← is, eq-eqb r.answer.number 0 none) wrote)
