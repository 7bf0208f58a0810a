-- The two ends of a slot: declined, and served.
use mathlib.Core.Path.{◌≡◌, refl, sym, ap, ◌∙◌}
use mathlib.Core.List.{List}
use Prim.Native.Nat.{ℕ}
use borrow.Author.Tests.{eq-eqb, ne_eqb}
use Rattle.ports.specs.Due.{declined}
use Rattle.ports.specs.declared.state.State.{State}
use Rattle.ports.specs.declared.state.Mode.{Mode}
use Rattle.ports.specs.Answer.{Stepped}
use Rattle.lcf.specs.Slot.{ended, slot_on_tables, finish_due}
use Rattle.lcf.proofs.Slots.{in_two}
use Rattle.shelf.specs.Hosts.{hosts_of}
use Rattle.shelf.specs.Grants.{granted}
use Rattle.shelf.specs.Step.{refusal, slot_on_hosts, stepped, output}
use Rattle.shelf.specs.Begun.{begun_of}
use Rattle.shelf.specs.declared.by_value.Begun.{Begun}
use Rattle.shelf.proofs.Refusals.{taken}

module _ (m : ℕ) (st : State) (slot : ℕ) (mode : Mode) (block : List ℕ) (link : ℕ) (out : List ℕ) (number : ℕ) (is : number ≡ refusal m st slot mode block out) where
  pub refused : (r : Stepped) → (number ≡ 0 → ⊥) → r ≡ declined m st number → (r ≡ stepped m st slot mode block out) × (out ≡ output m st slot mode block link out)
  unfolding stepped output declined
  refused r some e = rw (← is, ne_eqb number 0 some, ne_eqb number 0 some) (e, refl)

  module _ (none : number ≡ 0) (begun : Begun) (r : Stepped) (is-begun : begun ≡ begun_of m st (hosts_of m st.ports block))
      (run : r ≡ finish_due m st mode begun.work) where
    pub ran : r ≡ stepped m st slot mode block out
    unfolding stepped slot_on_hosts begun_of
    ran = rw (← is, eq-eqb number 0 none) (run ∙ ap (λ (b : Begun). finish_due m st mode b.work) is-begun ∙ in_two m st slot mode _ _ (taken m st slot mode block out (sym is ∙ none)).due)

    -- a slot that is run is served
    pub done : r.answer.number ≡ 0
    unfolding stepped slot_on_hosts slot_on_tables ended
    done = ap (λ (r : Stepped). r.answer.number) ran ∙ rw (← is, eq-eqb number 0 none, (taken m st slot mode block out (sym is ∙ none)).due)

    who : begun.heard ≡ (hosts_of m st.ports block).heard
    unfolding begun_of
    who = ap (λ (b : Begun). b.heard) is-begun

    pub served : (last : List ℕ) → last ≡ granted st.ports begun.heard link r.answer.sets out
        → (r ≡ stepped m st slot mode block out) × (last ≡ output m st slot mode block link out)
    unfolding output
    served last e = (ran, rw (← ran, eq-eqb _ 0 done, ← who) e)
