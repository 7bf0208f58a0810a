-- Histories of the card's lent calls on one state, each of which kept its promise.
use mathlib.Core.Path.{◌≡◌, sym, ap, ◌∙◌}
use mathlib.Core.Logic.{inl, inr, ⊎_elim}
use mathlib.Core.List.{List}
use Prim.Native.Nat.{ℕ, ◌^◌, ◌≤◌, ◌<◌}
use lib.ListN.{replicate}
use borrow.Author.Tests.{eq-eqb, eqb-true, eqb-false}
use Rattle.frames.specs.Part.{most_ports}
use Rattle.ports.specs.declared.state.State.{State}
use Rattle.ports.specs.Answer.{Answer}
use Rattle.demands.specs.History.{Below, after, how_many, InEach, InServed, quota, ByValue, Moves, Fair}
use Rattle.demands.specs.Refusal.{Valid}
use Rattle.demands.specs.SlotCall as slots
use Rattle.demands.specs.SlotShare as share
use Rattle.demands.specs.LentCall.{LentCall, Kept, next, served, connects, Waiting, Demanded}
use Rattle.demands.proofs.Turns.{fair_share}
use Rattle.demands.proofs.Histories.{throughout}
use Rattle.demands.proofs.Resent.{stale_again}
use Rattle.demands.proofs.SlotShare.{slots_fair}
use Rattle.demands.proofs.SlotConnections as connections
use Rattle.demands.proofs.SlotRefusal as refusal
use Rattle.demands.proofs.SlotServed.{served_advances}

module _ {m : ℕ} {st : State} {d : LentCall} (lent : Kept m st d) where
  -- its number is that of the call by value
  same_number : d.answer.number ≡ slots.number m st d.call
  same_number = ap (λ (a : Answer). a.number) lent.answered

  declined_keeps : (d.answer.number ≡ 0 → ⊥) → (d.state ≡ st) × (d.out ≡ d.call.out) × (d.answer.sets ≡ replicate m 0) × (d.answer.rounds ≡ 0)
  declined_keeps some =
      let (nothing, same) = refusal.declined_does_nothing m st d.call (λ e. some (same_number ∙ e)) in (
        lent.moved ∙ nothing.state_kept,
        lent.granted ∙ same,
        ap (λ (a : Answer). a.sets) lent.answered ∙ nothing.no_sets,
        ap (λ (a : Answer). a.rounds) lent.answered ∙ nothing.no_rounds,
      )

  served_there : d.answer.number ≡ 0 → slots.number m st d.call ≡ 0
  served_there done = sym same_number ∙ done

  demanded : Valid m st → Demanded m st d
  demanded v = record {
    declined_keeps = declined_keeps;
    served_advances = λ done. lent.moved ∙ served_advances m st d.call (served_there done);
    other_declined = λ slot< other.
        ⊎_elim (λ e. inl (same_number ∙ e)) (λ e. inr (same_number ∙ e)) (refusal.other_declined m st d.call slot< v.due_small v.in_order other);
    no_target_twice = rw lent.answered (connections.no_target_twice m st d.call);
  }

lent_moves : (m : ℕ) → Moves (λ st. st) (Kept m) next served
lent_moves m = record {
  declined_keeps = λ st d lent e. (declined_keeps lent (eqb-false _ 0 e)).0;
  served_advances = λ st d lent e. lent.moved ∙ served_advances m st d.call (served_there lent (eqb-true _ 0 e));
}

-- whom slot calls are fair to, lent calls are
pub lent_fair : (m i t : ℕ) {Waits : State → slots.SlotCall → Type 0} {Favours : State → Type 0}
    → Fair (λ st. st) ByValue (slots.next m) (slots.served m) (share.connects m i t) Waits Favours
    → Fair (λ st. st) (Kept m) next served (connects i t) (λ st d. Waits st d.call) Favours
lent_fair m i t fair = record {
  moves = lent_moves m;
  favours = λ st d lent e w f.
      rw (lent.answered, lent.granted) (fair.favours st d.call tt (eq-eqb _ 0 (served_there lent (eqb-true _ 0 e))) w f);
}

module _ (m : ℕ) (st : State) (calls : List LentCall) (kept : InEach next (Kept m) st calls) where
  -- Of W served calls, in each of which the pair (i, t) waits, W / n² or more connect it, in their answers and in the lent outputs.
  pub lent_share : m ≤ most_ports → (i t : ℕ) → Below st → i < st.ports → t < st.ports → InServed next served (Waiting i t) st calls
      → quota st.ports (how_many next served st calls) ≤ how_many next (connects i t) st calls
  lent_share most i t = fair_share (lent_fair m i t (slots_fair m most i t)) st calls kept

  -- Each call of a history that begins at a valid state is as it is demanded.
  pub lent_throughout : Valid m st → InEach next (Demanded m) st calls
  lent_throughout = throughout (lent_moves m) m (Demanded m) (λ st d lent. demanded lent) st calls kept

-- A slot that was served is declined with 3 when it comes again, whatever calls come between, as long as fewer than 2 ^ 31 of them are served.
pub lent_resent : (m : ℕ) (st : State) (d again : LentCall) (calls : List LentCall)
    → Kept m st d → InEach next (Kept m) (next st d) calls → Kept m (after next (next st d) calls) again
    → d.answer.number ≡ 0 → st.due < 2 ^ 32 → d.call.slot < 2 ^ 32 → how_many next served (next st d) calls < 2 ^ 31
    → again.call.slot ≡ d.call.slot → again.answer.number ≡ 3
lent_resent m st d again calls lent all lent_again done due< slot< few same =
    same_number lent_again
    ∙ stale_again (lent_moves m) m st d calls d.call again.call lent all (eq-eqb _ 0 done) (served_there lent done) due< slot< few same
