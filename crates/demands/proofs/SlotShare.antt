-- Demand 3, the share, on frames.
use mathlib.Core.Path.{◌≡◌, sym, ap, subst, ◌∙◌}
use mathlib.Core.Bool.{true}
use mathlib.Core.List.{List}
use Prim.Native.Nat.{ℕ, ◌≤◌, ◌<◌}
use borrow.Author.Tests.{eq-eqb, eqb-true, eqb-false}
use Rattle.laws.specs.Sets.{asks}
use Rattle.laws.proofs.Tests.{both}
use Rattle.frames.specs.Part.{most_ports}
use Rattle.ports.specs.declared.state.State.{State}
use Rattle.demands.specs.History.{Below, how_many, InServed, quota, ByValue, Moves, First, Fair}
use Rattle.demands.specs.Origin.{Alone}
use Rattle.demands.specs.Call as tables
use Rattle.demands.specs.Share as at_tables
use Rattle.demands.specs.SlotCall.{SlotCall, next, number, sets, served, output_after, on_tables}
use Rattle.demands.specs.SlotShare.{names, connects, Waiting}
use Rattle.demands.proofs.Calls.{served_call}
use Rattle.demands.proofs.Share.{tables_fair, waiting_alone}
use Rattle.demands.proofs.Turns.{fair_share, by_value}
use Rattle.demands.proofs.SlotCalls.{whole, same_number, same_sets}
use Rattle.demands.proofs.SlotHosts.{waits_on_tables}
use Rattle.demands.proofs.SlotGrants.{held_named}
use Rattle.demands.proofs.SlotRefusal.{declined_does_nothing}
use Rattle.demands.proofs.SlotServed.{served_advances}

-- When a waiting pair is connected, it is all that its initiator holds, and its host's grant frame names the target.
pub waiting_named : (m : ℕ) → m ≤ most_ports → (st : State) (c : SlotCall) (i t : ℕ) → i < st.ports → number m st c ≡ 0 → Waiting i t st c
    → asks (sets m st c) i t ≡ true → Alone (sets m st c) i t × (names st.ports (output_after m st c) i t ≡ true)
waiting_named m most st c i t i< done w e =
    let same = same_sets m st c done in
    let only = waiting_alone m st (on_tables m st c) i t (waits_on_tables st.owners (whole m st c done) i t i< w) (ap (λ s. asks s i t) (sym same) ∙ e) in
    let alone : Alone (sets m st c) i t = λ u q. only u (ap (λ s. asks s i u) (sym same) ∙ q) in
    (alone, held_named m most st c done i i< t e)

-- So a call connects a waiting pair if the call on tables that it comes to does.
pub connects_named : (m : ℕ) → m ≤ most_ports → (st : State) (c : SlotCall) (i t : ℕ) → i < st.ports → number m st c ≡ 0 → Waiting i t st c
    → at_tables.connects m i t st (on_tables m st c) ≡ true → connects m i t st c ≡ true
connects_named m most st c i t i< done w hit =
    let held : asks (sets m st c) i t ≡ true = ap (λ s. asks s i t) (same_sets m st c done) ∙ (both (tables.served m st (on_tables m st c)) _ hit).1 in
    rw (eq-eqb _ 0 done, held, (waiting_named m most st c i t i< done w held).1)

pub slots_move : (m : ℕ) → Moves (λ st. st) ByValue (next m) (served m)
slots_move m = record {
  declined_keeps = λ st c k e. (declined_does_nothing m st c (eqb-false _ 0 e)).0.state_kept;
  served_advances = λ st c k e. served_advances m st c (eqb-true _ 0 e);
}

pub slots_fair : (m : ℕ) → m ≤ most_ports → (i t : ℕ) → Fair (λ st. st) ByValue (next m) (served m) (connects m i t) (Waiting i t) (First i t)
slots_fair m most i t = record {
  moves = slots_move m;
  favours = λ st c k e w (ei, et).
      let done = eqb-true (number m st c) 0 e in
      let i< : i < st.ports = subst (λ (x : ℕ). x < st.ports) ei (served_call m st (on_tables m st c) (same_number m st c done)).in_order.offsets.initiator in
      connects_named m most st c i t i< done w ((tables_fair m i t).favours st (on_tables m st c) tt (eq-eqb _ 0 (same_number m st c done)) (waits_on_tables st.owners (whole m st c done) i t i< w) (ei, et));
}

-- Of W served slot calls in a history, in each of which the pair (i, t) waits, W / n² or more connect it. Declined calls may stand between
-- them, modes and limits may change from call to call, and the history may begin at any state with offsets below n.
pub share : (m : ℕ) → m ≤ most_ports → (i t : ℕ) (st : State) (calls : List SlotCall) → Below st → i < st.ports → t < st.ports
    → InServed (next m) (served m) (Waiting i t) st calls
    → quota st.ports (how_many (next m) (served m) st calls) ≤ how_many (next m) (connects m i t) st calls
share m most i t st calls = fair_share (slots_fair m most i t) st calls (by_value (next m) calls st)
