-- A slot that was served is declined with 3 when it comes again, whatever calls come between, as long as fewer than 2 ^ 31 of them are served.
use mathlib.Core.Path.{◌≡◌, ◌∙◌}
use mathlib.Core.Bool.{Bool, true}
use mathlib.Core.List.{List}
use Prim.Native.Nat.{ℕ, ◌^◌, ◌<◌}
use borrow.Author.Tests.{eq-eqb}
use Rattle.ports.specs.declared.state.State.{State}
use Rattle.demands.specs.History.{after, how_many, InEach, Moves}
use Rattle.demands.specs.SlotCall.{SlotCall, next, number, served, on_tables}
use Rattle.demands.proofs.Calls.{served_call}
use Rattle.demands.proofs.Turns.{by_value}
use Rattle.demands.proofs.Histories.{behind-after}
use Rattle.demands.proofs.SlotCalls.{same_number}
use Rattle.demands.proofs.SlotRefusal.{stale, served_when_due}
use Rattle.demands.proofs.SlotShare.{slots_move}

-- over any kind of call that moves as rule 7 says: the one that was served came to the slot call `first`
pub stale_again : {S C : Type 0} {view : S → State} {Kept : S → C → Type 0} {next : S → C → S} {served : S → C → Bool} → Moves view Kept next served
    → (m : ℕ) (st : S) (c : C) (calls : List C) (first again : SlotCall) → Kept st c → InEach next Kept (next st c) calls
    → served st c ≡ true → number m (view st) first ≡ 0 → (view st).due < 2 ^ 32 → first.slot < 2 ^ 32
    → how_many next served (next st c) calls < 2 ^ 31 → again.slot ≡ first.slot → number m (view (after next (next st c) calls)) again ≡ 3
stale_again {view = view} moves m st c calls first again kept all e done due< slot< few same =
    let ordered = (served_call m (view st) (on_tables m (view st) first) (same_number m (view st) first done)).in_order in
    let late = behind-after moves m st c calls kept all e (record { in_order = ordered; due_small = due< }) few in
    let slot : again.slot ≡ (view st).due = same ∙ served_when_due m (view st) first slot< due< done in
    (stale m _ again).1 (rw slot late)

pub resent_stale : (m : ℕ) (st : State) (c again : SlotCall) (calls : List SlotCall) → number m st c ≡ 0 → st.due < 2 ^ 32 → c.slot < 2 ^ 32
    → how_many (next m) (served m) (next m st c) calls < 2 ^ 31 → again.slot ≡ c.slot → number m (after (next m) (next m st c) calls) again ≡ 3
resent_stale m st c again calls done = stale_again (slots_move m) m st c calls c again tt (by_value (next m) calls (next m st c)) (eq-eqb _ 0 done) done
