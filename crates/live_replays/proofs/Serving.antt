-- Every slot of a sound body is served, and their numbers follow each other from the first on.
use mathlib.Core.Path.{◌≡◌, refl, sym, ap, ◌∙◌}
use mathlib.Core.Bool.{true}
use mathlib.Core.List.{List}
use Prim.Native.Nat.{ℕ, zero, suc, ◌+◌, ◌*◌, ◌%◌, ◌^◌, ◌≤◌, ◌<◌}
use native.Mathlib.Nat.{le_of_eq}
use native.Mathlib.Omega.{arith}
use lib.Dec.{ltb, leb}
use lib.ListN.{length, drop, length-drop, length-replicate}
use lib.Seq.{length-take-le}
use borrow.Author.Tests.{leb-true, ltb-true, lt-ltb, le-leb}
use Rattle.laws.specs.Steps.{steps}
use Rattle.laws.proofs.Tests.{both, every, in_range}
use Rattle.frames.specs.Part.{most_ports, frame_len, told_len}
use Rattle.ports.specs.Modes.{diagonal_mode, mode_of}
use Rattle.ports.specs.declared.state.State.{State}
use Rattle.ports.specs.Answer.{Stepped}
use Rattle.lcf.specs.Advance.{advance}
use Rattle.shelf.specs.Unanswered.{just_room, unanswered}
use Rattle.demands.specs.Refusal.{InOrder}
use Rattle.demands.specs.SlotCall.{SlotCall, called, number}
use Rattle.demands.proofs.Refusal.{advance_valid}
use Rattle.demands.proofs.SlotCalls.{limit_exactly}
use Rattle.demands.proofs.SlotServed.{served-in_order, served_advances}
use Rattle.trace_parts.specs.Layout.{block_len, most_mode}
use Rattle.trace_parts.specs.Body.{fields_of, formed, body_sound, read_fields, block_at, has_block, block_part}
use Rattle.trace_parts.proofs.BodyLaws.{Sound, sound, is_complete, block, least_body}
use Rattle.replays.specs.Replay.{start_state, replay_slot, state_before, replayed}

module _ (n slots first : ℕ) (body : List ℕ) (is_sound : body_sound most_ports n slots body ≡ true) where
  known : Sound most_ports n slots body
  known = sound most_ports n slots body is_sound

  read : (read_fields most_ports n body).fields ≡ fields_of body
  unfolding read_fields
  read =
      let whole = known.whole in
      let some : leb 3 (length body) ≡ true = le-leb 3 (length body) (omega (arith, whole.long, least_body n slots)) in
      rw (in_range whole.some whole.ports, some, known.form)

  mode_most : (fields_of body).mode ≤ diagonal_mode most_ports
  unfolding formed most_mode
  mode_most = leb-true _ _ (both (leb (fields_of body).mode (most_mode n)) _ known.form).0

  -- slot k as a call
  abbrev call : ℕ → State → SlotCall
  call k st = record { slot = st.due; mode = mode_of most_ports (read_fields most_ports n body).fields.mode; block = block_part most_ports n slots k body; link = 0; out = just_room st }

  as_called : (k : ℕ) (st : State) → replay_slot most_ports n slots body k st ≡ called most_ports st (call k st)
  unfolding replay_slot unanswered
  as_called k st = refl

  block_long : (k : ℕ) → k < slots → length (block_part most_ports n slots k body) ≡ n * frame_len n
  unfolding has_block block_len
  block_long k l =
      let has : has_block most_ports n slots k body ≡ true = every (is_complete known.whole) (lt-ltb k slots l) in
      let b = block most_ports n slots k body has in
      rw has (length-take-le _ (drop (block_at n k) body) (rw length-drop (omega (arith, b.fits))))

  abbrev at : ℕ → State
  at = state_before most_ports n slots body first

  -- a state of n ports that is in order is served, and advanced
  serves_one : (k : ℕ) (st : State) → k < slots → InOrder most_ports st → st.ports ≡ n → number most_ports st (call k st) ≡ 0
  serves_one k st l o same =
      served-in_order most_ports st (call k st) o refl (λ w. omega (arith, mode_most, (limit_exactly most_ports (fields_of body).mode).0 (rw read at w)))
      (block_long k l ∙ ap (λ (p : ℕ). p * frame_len p) (sym same)) (le_of_eq (sym (length-replicate (st.ports * told_len st.ports) 0)))

  pub record There (k : ℕ) : Type 0 where
    pub in_order : InOrder most_ports (at k)
    pub ports : (at k).ports ≡ n

  next_state : (k : ℕ) → k < slots → There k → at (suc k) ≡ advance (at k)
  unfolding state_before steps
  next_state k l t =
      ap (λ (r : Stepped). r.state) (as_called k (at k)) ∙ served_advances most_ports (at k) (call k (at k)) (serves_one k (at k) l t.in_order t.ports)

  there : (k : ℕ) → k ≤ slots → There k
  unfolding state_before steps start_state formed advance
  there zero l =
      let (_, offsets) = both (leb (fields_of body).mode (most_mode n)) _ known.form in
      let (i, j) = both (ltb (fields_of body).initiator n) _ offsets in
      record {
        in_order = record {
          some_port = known.whole.some;
          ports_at_most = known.whole.ports;
          offsets = record { initiator = rw read (ltb-true _ n i); target = rw read (ltb-true _ n j) };
        };
        ports = refl;
      }
  there (suc k) l =
      let before = there k (omega arith) in
      let e = next_state k l before in
      record {
        in_order = rw e (advance_valid most_ports (at k) before.in_order).in_order;
        ports = ap (λ (s : State). s.ports) e ∙ before.ports;
      }

  pub serves : (k : ℕ) → k < slots → (replayed most_ports n slots body first k).answer.number ≡ 0
  unfolding replayed
  serves k l =
      let t = there k (omega arith) in
      ap (λ (r : Stepped). r.answer.number) (as_called k (at k)) ∙ serves_one k (at k) l t.in_order t.ports

  -- after 4294967295 comes 0
  pub numbers : first < 2 ^ 32 → (k : ℕ) → k ≤ slots → (at k).due ≡ (first + k) % 2 ^ 32
  unfolding state_before steps start_state advance
  numbers h zero l = omega arith
  numbers h (suc k) l =
      let before = numbers h k (omega arith) in
      ap (λ (s : State). s.due) (next_state k l (there k (omega arith))) ∙ omega arith
