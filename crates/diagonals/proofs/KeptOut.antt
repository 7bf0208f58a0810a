-- The crowd at target 0 keeps host 0 out for n slots: in slot calls on frames, and in C calls.
use mathlib.Core.Path.{◌≡◌, refl, sym, ap, ◌∙◌}
use mathlib.Core.Bool.{true}
use mathlib.Core.List.{List}
use Prim.Native.Nat.{ℕ, ◌*◌, ◌≤◌}
use native.Mathlib.Nat.{le_of_eq}
use native.Mathlib.Omega.{arith}
use lib.ListN.{length, take, drop, length-append, length-replicate}
use lib.Seq.{length-take-le}
use lib.Dec.{eqb}
use borrow.Author.Tests.{eq-eqb}
use Rattle.laws.specs.Sets.{asks}
use Rattle.laws.proofs.Tests.{both, arms}
use Rattle.frames.specs.Part.{most_ports, told_len}
use Rattle.ports.specs.Modes.{diagonal_mode}
use Rattle.ports.specs.declared.state.State.{State}
use Rattle.lcf.specs.Advance.{advance}
use Rattle.demands.specs.History.{Below, ByValue}
use Rattle.demands.specs.Numbers.{WrongLimit}
use Rattle.demands.specs.Refusal.{InOrder}
use Rattle.demands.specs.SlotCall as frames
use Rattle.demands.specs.SlotShare as at_frames
use Rattle.demands.proofs.Turns.{advance_below}
use Rattle.demands.proofs.SlotCalls.{limit_exactly}
use Rattle.demands.proofs.SlotConnections.{no_target_twice}
use Rattle.demands.proofs.SlotServed.{served-in_order, served_advances}
use Rattle.table_bytes.specs.State.{state_len, state_of, state_bytes}
use Rattle.table_bytes.proofs.Fits.{length_state}
use Rattle.table_bytes.proofs.Trips.{state_reads_back}
use Rattle.bellacush.specs.Slot.{state_after, fits, run, slot_state}
use Rattle.promised.specs.Call as c
use Rattle.promised.specs.Share as on_bytes
use Rattle.promised.specs.Demanded.{Served}
use Rattle.promised.proofs.Calls.{number_there, served_call}
use Rattle.diagonals.specs.Share.{Waiting, CWaiting}
use Rattle.diagonals.specs.KeptOut.{KeptOut}
use Rattle.diagonals.specs.Crowd.{crowd_block, room, crowd_call, c_crowd, from_one}
use Rattle.diagonals.proofs.Crowd.{crowd_long, crowd_waits}
use Rattle.diagonals.proofs.Shares.{slots_diagonal, c_diagonal}
use Rattle.diagonals.proofs.Starve.{Crowd, keeps_out}

-- a C call leaves as many bytes of the state
state_long : (m : ℕ) (state : List ℕ) (slot mode : ℕ) (block out table : List ℕ) → length state ≡ state_len → length (slot_state m state slot mode block out table) ≡ state_len
unfolding slot_state state_after
state_long m state slot mode block out table long =
    arms (λ (s : List ℕ). length s ≡ state_len) (fits m state slot mode block out table) _ _
    (λ e. arms (λ (s : List ℕ). length s ≡ state_len) (eqb (run m state slot mode block out table).answer.number 0) _ _ (λ f. length_state _) (λ f. long)) (λ e. long)

module _ (m n : ℕ) (shelf : m ≤ most_ports) (most : n ≤ m) (two : 2 ≤ n) where
  -- n ports, all of them operator 0's, and offsets below them
  record Good (st : State) : Type 0 where
    ports : st.ports ≡ n
    offsets : Below st
    owners : st.owners ≡ 0

  first_good : Good (from_one n)
  first_good = record { ports = refl; offsets = record { initiator = omega arith; target = omega arith }; owners = refl }

  good_next : (st : State) → Good st → Good (advance st)
  unfolding advance
  good_next st good = record { ports = good.ports; offsets = advance_below st good.offsets; owners = good.owners }

  module _ (st : State) (good : Good st) where
    in_order : InOrder m st
    in_order = record { some_port = omega (arith, good.offsets.initiator); ports_at_most = rw good.ports most; offsets = good.offsets }

    -- the crowd's call, in a mode that is no wrong limit
    serves : (d : frames.SlotCall) → d.slot ≡ st.due → d.block ≡ crowd_block st.ports → d.out ≡ room st → (WrongLimit m d.mode → ⊥) → frames.number m st d ≡ 0
    serves d slot block out limit = served-in_order m st d in_order slot limit (ap length block ∙ crowd_long st.ports)
        (le_of_eq (sym (ap length out ∙ length-replicate (st.ports * told_len st.ports) 0)))

  -- ---- slot calls on frames

  frames_serve : (st : State) → Good st → frames.number m st (crowd_call st) ≡ 0
  frames_serve st good = serves st good (crowd_call st) refl refl refl (λ e. e)

  frames_crowd : Crowd (λ st. st) ByValue (frames.next m) (frames.served m) (λ h. at_frames.connects m h 0) (λ h st d. asks (frames.sets m st d) h 0) (λ h. Waiting h 0) Good n
  frames_crowd = record {
    call = crowd_call;
    keeps = λ st good. tt;
    serves = λ st good. eq-eqb _ 0 (frames_serve st good);
    stays = λ st good. rw (served_advances m st (crowd_call st) (frames_serve st good)) (good_next st good);
    waits = λ st good h h<. (refl, rw good.owners (crowd_waits st.ports (omega (arith, good.ports)) h (rw good.ports h<)));
    fair = λ h. slots_diagonal m shelf h 0;
    apart = λ st g h good p q. no_target_twice m st (crowd_call st) g h 0 (both (asks (frames.sets m st (crowd_call st)) g 0) _ (both (frames.served m st (crowd_call st)) _ p).1).0 q;
  }

  -- For every n of 2 or more there is a history of n served slot calls, all diagonal first, that keeps a waiting pair out.
  pub kept_out : KeptOut (λ st. st) ByValue (frames.next m) (frames.served m) (λ st d. asks (frames.sets m st d) 0 0) (Waiting 0 0) n
  kept_out = keeps_out n two frames_crowd (from_one n) first_good refl

  -- ---- C calls

  record CGood (state : List ℕ) : Type 0 where
    long : state_len ≤ length state
    good : Good (state_of state)

  module _ (state : List ℕ) (good : CGood state) where
    lengths : c.Lengths m state (c_crowd m state)
    lengths = record { nine = length-take-le state_len state good.long; two_each = length-replicate (m * 2) 0 }

    c_serves : c.number (c_crowd m state) ≡ 0
    c_serves = number_there m state (c_crowd m state) refl lengths
        ∙ serves (state_of state) good.good (c.on_frames m (c_crowd m state)) refl refl refl (λ w. omega (arith, (limit_exactly m (diagonal_mode m)).0 w))

    on_frames_too : Served m state (c_crowd m state)
    on_frames_too = served_call m state (c_crowd m state) refl shelf (omega (arith, good.good.owners)) c_serves

    c_long : state_len ≤ length (c_crowd m state).left.state
    c_long =
        let h = (c_crowd m state).handed in
        let left = state_long m (take state_len state) h.slot h.mode h.block h.out h.table lengths.nine in
        rw (length-append _ (drop state_len state)) (omega (arith, left))

    c_stays : CGood (c.next state (c_crowd m state))
    c_stays = record {
      long = c_long;
      good = rw (on_frames_too.same_state, served_advances m (state_of state) (c.on_frames m (c_crowd m state)) on_frames_too.at_frames) (good_next (state_of state) good.good);
    }

    c_apart : (g h : ℕ) → on_bytes.connects g 0 state (c_crowd m state) ≡ true → on_bytes.holds (c_crowd m state).left.table h 0 ≡ true → g ≡ h
    c_apart g h p q =
        let same = on_frames_too.same_table in
        let held = (both (on_bytes.holds (c_crowd m state).left.table g 0) _ (both (c.served state (c_crowd m state)) _ p).1).0 in
        no_target_twice m (state_of state) (c.on_frames m (c_crowd m state)) g h 0 (sym (same g 0) ∙ held) (sym (same h 0) ∙ q)

  c_crowd_lem : Crowd state_of (c.OnBytes m) c.next c.served (λ h. on_bytes.connects h 0) (λ h state d. on_bytes.holds d.left.table h 0) (λ h. CWaiting m h 0) CGood n
  c_crowd_lem = record {
    call = c_crowd m;
    keeps = λ state good. record { kept = refl; owners = omega (arith, good.good.owners) };
    serves = λ state good. eq-eqb _ 0 (c_serves state good);
    stays = c_stays;
    waits = λ state good h h<. let ports = good.good.ports in (refl, rw good.good.owners (crowd_waits (state_of state).ports (omega arith) h (rw ports h<)));
    fair = λ h. c_diagonal m shelf h 0;
    apart = λ state g h good. c_apart state good g h;
  }

  -- And a history of n served C calls, each of which kept its promise.
  pub c_kept_out : KeptOut state_of (c.OnBytes m) c.next c.served (λ state d. on_bytes.holds d.left.table 0 0) (CWaiting m 0 0) n
  c_kept_out =
      let is : state_of (state_bytes (from_one n)) ≡ from_one n = state_reads_back (from_one n) (record { ports = omega arith; initiator = omega arith; target = omega arith; due = omega arith; owners = omega arith }) in
      keeps_out n two c_crowd_lem (state_bytes (from_one n)) (record { long = le_of_eq (sym (length_state (from_one n))); good = rw is first_good }) is
