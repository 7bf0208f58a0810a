-- Demand 3, the share. A waiting pair is connected when it is the favoured one, so it is connected each time its turn comes.
use mathlib.Core.Path.{◌≡◌, sym, ◌∙◌, subst₂}
use mathlib.Core.Logic.{⊎_elim}
use mathlib.Core.Bool.{true, true≢false}
use mathlib.Core.List.{List}
use Prim.Native.Nat.{ℕ, ◌≤◌, ◌<◌}
use lib.ListN.{length}
use borrow.Author.Tests.{eqb-true, eqb-false}
use Rattle.laws.specs.Sets.{asks}
use Rattle.laws.proofs.Members.{asks-row}
use Rattle.ports.specs.declared.state.State.{State}
use Rattle.ports.specs.declared.state.Mode.{Mode}
use Rattle.planned.specs.Planned.{start}
use Rattle.lcf.specs.Slot.{matched}
use Rattle.choices.specs.declared.work.Work.{Work}
use Rattle.demands.specs.Origin.{Live, Alone}
use Rattle.demands.specs.Call.{Call, next, sets, served}
use Rattle.demands.specs.History.{Below, how_many, InServed, quota, ByValue, Moves, First, Fair}
use Rattle.demands.specs.Share.{connects, Waits, Waiting}
use Rattle.demands.proofs.Connections.{nothing_from_nowhere}
use Rattle.demands.proofs.Join.{held_still, held_now}
use Rattle.demands.proofs.Keeps.{mode_favours}
use Rattle.demands.proofs.Stage.{start_rows, start_live}
use Rattle.demands.proofs.Calls.{served_call}
use Rattle.demands.proofs.Refusal.{declined_does_nothing}
use Rattle.demands.proofs.Turns.{fair_share, by_value}

-- a waiting pair is live after the planned stage
pub waits_live : (st : State) (req pre : List ℕ) (i t : ℕ) → i < st.ports → t < st.ports → Waits st.ports req pre i t → Live st req pre i t
waits_live st req pre i t i< t< w = record {
  initiator = i<;
  target = t<;
  asked = w.asked;
  given_none = λ u g. true≢false (sym g.claimant.asks_too ∙ w.plans_nothing u g.target);
  given_to_none = λ j g. true≢false (sym g.claimant.asks_too ∙ w.unplanned j g.claimant.below);
}

-- the favoured pair (I, J) is connected if it waits, in every mode
pub favoured : (st : State) (mode : Mode) (req pre : List ℕ) → Below st
    → Waits st.ports req pre st.initiator.0 st.target.0 → asks (matched st mode req pre).work.held st.initiator.0 st.target.0 ≡ true
unfolding matched
favoured st mode req pre b w = mode_favours (λ u. asks u.held i t ≡ true) (λ u j c l. held_still u j c i t) st b mode s live (held_now s i t row)
  where
    i : ℕ
    i = st.initiator.0

    t : ℕ
    t = st.target.0

    s : Work
    s = start st req pre

    live : asks s.live i t ≡ true
    live = (start_live st req pre i t).1 (waits_live st req pre i t b.initiator b.target w)

    row : i < length s.held
    row = rw start_rows (asks-row req i t w.asked)

tables_move : (m : ℕ) → Moves (λ st. st) ByValue (next m) (served m)
tables_move m = record {
  declined_keeps = λ st c k e. (declined_does_nothing m st c (eqb-false _ 0 e)).state_kept;
  served_advances = λ st c k e. (served_call m st c (eqb-true _ 0 e)).advances;
}

pub tables_fair : (m i t : ℕ) → Fair (λ st. st) ByValue (next m) (served m) (connects m i t) (Waiting i t) (First i t)
tables_fair m i t = record {
  moves = tables_move m;
  favours = λ st c k e w (ei, et).
      let r = served_call m st c (eqb-true _ 0 e) in
      let hit = favoured st c.mode c.req c.pre r.in_order.offsets (subst₂ (Waits st.ports c.req c.pre) (sym ei) (sym et) w) in
      rw (e, r.sets-matched) (subst₂ (λ x y. asks (matched st c.mode c.req c.pre).work.held x y ≡ true) ei et hit);
}

-- Of W served calls in a history, in each of which the pair (i, t) waits, W / n² or more connect it. Declined calls may stand between them,
-- modes and limits may change from call to call, and the history may begin at any state with offsets below n.
pub share : (m i t : ℕ) (st : State) (calls : List Call) → Below st → i < st.ports → t < st.ports → InServed (next m) (served m) (Waiting i t) st calls
    → quota st.ports (how_many (next m) (served m) st calls) ≤ how_many (next m) (connects m i t) st calls
share m i t st calls = fair_share (tables_fair m i t) st calls (by_value (next m) calls st)

-- And when it is connected, it is all that its initiator holds.
pub waiting_alone : (m : ℕ) (st : State) (c : Call) (i t : ℕ) → Waiting i t st c → asks (sets m st c) i t ≡ true → Alone (sets m st c) i t
waiting_alone m st c i t w e = ⊎_elim (λ given. absurd (true≢false (sym given.claimant.asks_too ∙ w.plans_nothing t given.target))) (λ live. live.1)
    (nothing_from_nowhere m st c i t e)
