-- The replay of the body that records live slots gives, slot by slot, what they gave, and ends in the state that they left.
use mathlib.Core.Path.{◌≡◌, sym, ap, ◌∙◌}
use mathlib.Core.Bool.{true}
use mathlib.Core.List.{List, ◌++◌}
use Prim.Native.Nat.{ℕ, zero, suc, ◌^◌, ◌≤◌, ◌<◌}
use native.Mathlib.Nat.{mod-lt}
use native.Mathlib.Omega.{arith}
use lib.Dec.{lit<}
use Rattle.laws.specs.Parts.{parts}
use Rattle.laws.specs.Steps.{steps}
use Rattle.laws.proofs.Loops.{same_steps}
use Rattle.frames.specs.Part.{most_ports}
use Rattle.ports.specs.declared.state.State.{State}
use Rattle.ports.specs.Answer.{Stepped}
use Rattle.shelf.specs.Step.{refusal, stepped}
use Rattle.shelf.specs.Unanswered.{unanswered}
use Rattle.shelf.proofs.Refusals.{taken}
use Rattle.shelf.proofs.Unawaited.{unanswered-stepped}
use Rattle.table_bytes.specs.Table.{table_bytes}
use Rattle.demands.specs.SlotCall.{SlotCall, called, number, sets}
use Rattle.demands.proofs.SlotRefusal.{served_when_due}
use Rattle.trace_parts.specs.Body.{body_sound, block_part, read_fields}
use Rattle.trace_writer.proofs.SealedBodies.{sound_back, read_back, has_back, block_back}
use Rattle.replays.specs.Replay.{start_state, replay_slot, state_before, replayed}
use Rattle.replays.specs.Tables.{all_tables}
use Rattle.live_replays.specs.Live.{live_state, Served, recorded_fields, recorded}
use Rattle.live_replays.proofs.Recorded.{not_refused, live_due, block_among, fits}

-- a served call gives what the slot due gives without an output
served_alone : (m : ℕ) (st : State) (c : SlotCall) → number m st c ≡ 0 → c.slot < 2 ^ 32 → st.due < 2 ^ 32
    → unanswered m st st.due c.mode c.block ≡ called m st c
unfolding stepped
served_alone m st c e slot< due< =
    let none = not_refused m st (refusal m st c.slot c.mode c.block c.out) _ e in
    let room = (taken m st c.slot c.mode c.block c.out none).room in
    ap (λ (x : ℕ). unanswered m st x c.mode c.block) (sym (served_when_due m st c slot< due< e))
    ∙ sym (unanswered-stepped m st c.slot c.mode c.block c.out room)

module _ (mode : ℕ) (calls : ℕ → SlotCall) (st : State) (slots : ℕ) (h : Served most_ports mode calls st slots) where
  abbrev n : ℕ
  n = st.ports

  abbrev live : ℕ → State
  live = live_state most_ports calls st

  abbrev blocks : List ℕ
  blocks = parts (λ k. (calls k).block) slots

  abbrev body : List ℕ
  body = recorded mode calls st slots

  -- The body that records them is sound.
  pub recorded_sound : body_sound most_ports n slots body ≡ true
  recorded_sound = sound_back n slots (recorded_fields mode st) blocks (fits mode calls st slots h)

  read : read_fields most_ports n body ≡ record { number = 0; fields = recorded_fields mode st }
  read = read_back n slots (recorded_fields mode st) blocks (fits mode calls st slots h)

  starts : start_state most_ports n body st.due ≡ st
  unfolding start_state
  starts = let none = sym h.one_operator in rw read (λ k. record { ports = n; initiator = st.initiator; target = st.target; due = st.due; owners = none k })

  found : (k : ℕ) → k < slots → block_part most_ports n slots k body ≡ (calls k).block
  found k l =
      let f = fits mode calls st slots h in
      rw (has_back n slots (recorded_fields mode st) blocks f k l) (block_back n slots (recorded_fields mode st) blocks f k l ∙ block_among mode calls st slots h k l)

  due_small : (k : ℕ) → k ≤ slots → (live k).due < 2 ^ 32
  due_small k l = rw (live_due mode calls st slots h k l) (mod-lt _ (lit< tt))

  slot_same : (k : ℕ) → k < slots → replay_slot most_ports n slots body k (live k) ≡ called most_ports (live k) (calls k)
  unfolding replay_slot
  slot_same k l =
      rw (found k l, read, ← h.one_mode k l) (served_alone most_ports (live k) (calls k) (h.served k l) (h.slot_words k l) (due_small k (omega arith)))

  -- Before slot k, and after the last, the replay is in the state that the live slots were in.
  pub same_state : (k : ℕ) → k ≤ slots → state_before most_ports n slots body st.due k ≡ live k
  unfolding state_before live_state steps
  same_state zero l = starts
  same_state (suc k) l =
      ap (λ (s : State). (replay_slot most_ports n slots body k s).state) (same_state k (omega arith)) ∙ ap (λ (r : Stepped). r.state) (slot_same k l)

  -- Slot k gives what it gave: the state, the number, the sets and the rounds.
  pub replay_is_live : (k : ℕ) → k < slots → replayed most_ports n slots body st.due k ≡ called most_ports (live k) (calls k)
  unfolding replayed
  replay_is_live k l = ap (replay_slot most_ports n slots body k) (same_state k (omega arith)) ∙ slot_same k l

  -- The bytes of the whole replay are the tables of the live slots.
  pub tables_are_live : all_tables most_ports n st.due slots body ≡ parts (λ k. table_bytes most_ports (sets most_ports (live k) (calls k))) slots
  tables_are_live =
      same_steps _ _ _ slots (λ k u l. ap (λ (r : Stepped). u ++ table_bytes most_ports r.answer.sets) (replay_is_live k l))
