-- Histories of C calls on one lent state, each of which kept its promise. Whatever C hands over is part of them: any lengths, modes and slots.
use mathlib.Core.Path.{◌≡◌, sym, ap, ◌∙◌}
use mathlib.Core.Logic.{inl, inr, ⊎_elim}
use mathlib.Core.List.{List, [], ◌∷◌}
use Prim.Native.Nat.{ℕ, ◌^◌, ◌≤◌, ◌<◌}
use native.Mathlib.Omega.{arith}
use borrow.Author.Tests.{eq-eqb, eqb-true, eqb-false}
use Rattle.laws.specs.Bytes.{Bytes}
use Rattle.laws.proofs.Tests.{both}
use Rattle.frames.specs.Part.{most_ports}
use Rattle.ports.specs.declared.state.State.{State}
use Rattle.lcf.specs.Advance.{advance}
use Rattle.demands.specs.History.{Below, after, how_many, InEach, InServed, quota, ByValue, Moves, Fair}
use Rattle.demands.specs.Refusal.{InOrder, Valid}
use Rattle.demands.specs.SlotCall as frames
use Rattle.demands.specs.SlotShare as at_frames
use Rattle.demands.proofs.Turns.{fair_share}
use Rattle.demands.proofs.Histories.{throughout, owners_kept}
use Rattle.demands.proofs.Resent.{stale_again}
use Rattle.demands.proofs.SlotCalls.{number_by_table}
use Rattle.demands.proofs.SlotConnections.{no_target_twice}
use Rattle.demands.proofs.SlotRefusal.{other_declined}
use Rattle.demands.proofs.SlotServed.{served_advances}
use Rattle.demands.proofs.SlotShare.{slots_fair}
use Rattle.table_bytes.specs.State.{state_of}
use Rattle.table_bytes.proofs.Trips.{due_small, owners_small}
use Rattle.promised.specs.Call.{Left, rounds_in, CCall, Kept, OnBytes, next, number, served, on_frames, Lengths}
use Rattle.promised.specs.Share.{connects, Waiting}
use Rattle.promised.specs.Demanded.{Demanded}
use Rattle.promised.proofs.Calls.{number_there, wrong_lengths, declined_keeps, served_call}

module _ (m : ℕ) (most : m ≤ most_ports) where
  advances : (state : List ℕ) (d : CCall) → OnBytes m state d → number d ≡ 0 → state_of (next state d) ≡ advance (state_of state)
  advances state d on done =
      let r = served_call m state d on.kept most on.owners done in
      r.same_state ∙ served_advances m (state_of state) (on_frames m d) r.at_frames

  c_moves : Moves state_of (OnBytes m) next served
  c_moves = record {
    declined_keeps = λ state d on e. ap (λ (l : Left). state_of l.state) (declined_keeps m state d on.kept (eqb-false _ 0 e));
    served_advances = λ state d on e. advances state d on (eqb-true _ 0 e);
  }

  -- from bytes on, each call is one on bytes
  on_bytes : (calls : List CCall) (state : List ℕ) → (state_of state).owners < 2 ^ 16 → InEach next (Kept m) state calls → InEach next (OnBytes m) state calls
  unfolding InEach
  on_bytes [] state small kept = tt
  on_bytes (d ∷ calls) state small (k, ks) =
      let on : OnBytes m state d = record { kept = k; owners = small } in
      (on, on_bytes calls (next state d) (rw (owners_kept c_moves m state d on) small) ks)

  pub all_on_bytes : (calls : List CCall) (state : List ℕ) → Bytes state → InEach next (Kept m) state calls → InEach next (OnBytes m) state calls
  all_on_bytes calls state bytes = on_bytes calls state (owners_small state bytes)

  -- whom slot calls on frames are fair to, C calls are
  pub c_fair : (i t : ℕ) {Waits : State → frames.SlotCall → Type 0} {Favours : State → Type 0}
      → Fair (λ st. st) ByValue (frames.next m) (frames.served m) (at_frames.connects m i t) Waits Favours
      → Fair state_of (OnBytes m) next served (connects i t) (λ state d. Waits (state_of state) (on_frames m d)) Favours
  c_fair i t fair = record {
    moves = c_moves;
    favours = λ state d on e w f.
        let r = served_call m state d on.kept most on.owners (eqb-true _ 0 e) in
        let hit = fair.favours (state_of state) (on_frames m d) tt (eq-eqb _ 0 r.at_frames) w f in
        rw (e, r.same_table i t, r.same_output) (both (frames.served m (state_of state) (on_frames m d)) _ hit).1;
  }

  demanded : (state : List ℕ) (d : CCall) → OnBytes m state d → Valid m (state_of state) → Demanded m state d
  demanded state d on v = let kept = on.kept in record {
    wrong_lengths = wrong_lengths m state d kept;
    number_by_table = λ right. (number_by_table m (state_of state) (on_frames m d) (number d)).0 (sym (number_there m state d kept right));
    other_declined = λ right slot< other. let is = number_there m state d kept right in
        ⊎_elim (λ e. inl (is ∙ e)) (λ e. inr (is ∙ e)) (other_declined m (state_of state) (on_frames m d) slot< v.due_small v.in_order other);
    declined_keeps = λ some. let same = declined_keeps m state d kept some in
        (ap (λ (l : Left). l.state) same, ap (λ (l : Left). l.out) same, ap (λ (l : Left). l.table) same, ap rounds_in same ∙ omega arith);
    served_advances = advances state d on;
    no_target_twice = λ done i j t p q. let same = (served_call m state d kept most on.owners done).same_table in
        no_target_twice m (state_of state) (on_frames m d) i j t (sym (same i t) ∙ p) (sym (same j t) ∙ q);
  }

  module _ (state : List ℕ) (bytes : Bytes state) (calls : List CCall) (kept : InEach next (Kept m) state calls) where
    -- Of W served calls, in each of which the pair (i, t) waits, W / n² or more connect it, in the bytes of the table and in host i's grant frame.
    pub share : (i t : ℕ) → Below (state_of state) → i < (state_of state).ports → t < (state_of state).ports → InServed next served (Waiting i t) state calls
        → quota (state_of state).ports (how_many next served state calls) ≤ how_many next (connects i t) state calls
    share i t = fair_share (c_fair i t (slots_fair m most i t)) state calls (all_on_bytes calls state bytes kept)

    -- Each call of a history that begins with the bytes of a state in order is as it is demanded.
    pub all_demanded : InOrder m (state_of state) → InEach next (Demanded m) state calls
    all_demanded o = throughout c_moves m (Demanded m) demanded state calls (all_on_bytes calls state bytes kept) (record { in_order = o; due_small = due_small state bytes })

  -- A slot that was served is declined with 3 when it comes again, whatever calls come between, as long as fewer than 2 ^ 31 of them are served.
  pub resent_stale : (state : List ℕ) (d again : CCall) (calls : List CCall) → Kept m state d → InEach next (Kept m) (next state d) calls
      → Kept m (after next (next state d) calls) again → Lengths m (after next (next state d) calls) again
      → Bytes state → number d ≡ 0 → d.handed.slot < 2 ^ 32 → how_many next served (next state d) calls < 2 ^ 31
      → again.handed.slot ≡ d.handed.slot → number again ≡ 3
  unfolding InEach
  resent_stale state d again calls kept all kept_again right bytes done slot< few same =
      let (on, all-on) = all_on_bytes (d ∷ calls) state bytes (kept, all) in
      number_there m _ again kept_again right
      ∙ stale_again c_moves m state d calls (on_frames m d) (on_frames m again) on all-on (eq-eqb _ 0 done) (served_call m state d kept most on.owners done).at_frames (due_small state bytes) slot< few same
