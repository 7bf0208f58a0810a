-- What pins the C form's definitions down: the mode, the rounds, a fresh state's bytes, and that qen is unused.
use mathlib.Core.Path.{◌≡◌, refl, sym, ap, subst, ◌∙◌}
use mathlib.Core.List.{List, ◌∷◌, ◌++◌}
use Prim.Native.Nat.{ℕ, ◌*◌, ◌%◌, ◌^◌, ◌≤◌, ◌<◌}
use native.Mathlib.Nat.{mod-eq_of_lt}
use native.Mathlib.Omega.{arith}
use lib.ListN.{length, get_or, take}
use lib.Dec.{eqb}
use lib.Pow.{pow_mono}
use borrow.Author.Tests.{eq-eqb}
use Rattle.laws.specs.Bytes.{Bytes, big_endian}
use Rattle.laws.proofs.Bytes.{number_big}
use Rattle.laws.proofs.Members.{gathered-has}
use Rattle.frames.specs.Part.{most_ports, frame_len, told_len}
use Rattle.refusals.specs.Numbers.{Answer}
use Rattle.ports.specs.Modes.{diagonal_mode, mode_of}
use Rattle.lent.specs.Filled.{fitted_number, filled_after}
use Rattle.ports.specs.Owners.{owners_of}
use Rattle.ports.specs.Ready.{at_first, fresh}
use Rattle.ports.specs.declared.state.State.{State}
use Rattle.ports.proofs.Started.{fresh_is}
use Rattle.demands.specs.Block.{QenAlone}
use Rattle.demands.specs.SlotCall as frames
use Rattle.demands.specs.Rounds.{HasRounds}
use Rattle.demands.proofs.Qen.{qen_unused, qen_unused_output}
use Rattle.demands.proofs.SlotCalls.{limit_exactly}
use Rattle.demands.proofs.Rounds.{rounds_run}
use Rattle.demands.proofs.Small.{small}
use Rattle.demands.proofs.Started.{fresh_serves}
use Rattle.table_bytes.specs.State.{state_len, state_of, state_bytes}
use Rattle.table_bytes.proofs.Trips.{owners_small}
use Rattle.bellacush.specs.Fresh.{fresh_fits, fresh_number, fresh_state}
use Rattle.bellacush.specs.Slot.{fits, run, slot_word, slot_state, slot_table, slot_output}
use Rattle.promised.specs.Call.{Handed, CCall, promise, Kept, number, rounds, on_frames, Lengths}
use Rattle.promised.proofs.Calls.{number_there, served_call}

-- The rounds in a served call's word are those of rule 6.
pub rounds_in-word : (m : ℕ) → m ≤ most_ports → (state : List ℕ) → Bytes state → (d : CCall) → Kept m state d → number d ≡ 0 → HasRounds m (state_of state) (on_frames m d) (rounds d)
rounds_in-word m most state bytes d kept done =
    let r = served_call m state d kept most (owners_small state bytes) done in
    subst (HasRounds m (state_of state) (on_frames m d)) (sym r.same_rounds) (rounds_run m (state_of state) (on_frames m d) r.at_frames)

-- With another qen in the block, a call leaves the same word and the same bytes.
abbrev pub with_block : Handed → List ℕ → Handed
with_block c block = record { lent = c.lent; slot = c.slot; mode = c.mode; block = block; link = c.link; out = c.out; table = c.table }

pub qen_unused_in_bytes : (m : ℕ) (state : List ℕ) (c : Handed) (other : List ℕ) → QenAlone (state_of (take c.lent state)).ports c.block other
    → promise m state c ≡ promise m state (with_block c other)
unfolding slot_word slot_state slot_table slot_output run fits
qen_unused_in_bytes m state c other alone =
    let st = state_of (take c.lent state) in
    rw (qen_unused m st c.slot (mode_of m c.mode) c.block other c.link c.out alone, qen_unused_output m st c.slot (mode_of m c.mode) c.block other c.link c.out alone)

-- What `bellacush_fresh` leaves, given an operator number for each port and called in order: n, two zeros, the slot due in four bytes and the owners in
-- two. These bytes are the fresh state, and a call in order on them is served in the slot that they name.
module _ (m n due : ℕ) (shelf : m ≤ most_ports) (some : 1 ≤ n) (most : n ≤ m) (operators : List ℕ) (operated : (p : ℕ) → p < n → get_or operators p 0 ≤ 1) where
  abbrev made : List ℕ
  made = n ∷ 0 ∷ 0 ∷ big_endian 4 due ++ big_endian 2 (owners_of operators n)

  abbrev is : fresh m n due operators ≡ record { number = 0; fields = at_first n due (owners_of operators n) }
  is = fresh_is operators m n due some most operated

  pub fresh_bytes : (state : List ℕ) → length operators ≡ m → length state ≡ state_len
      → (fresh_number m n due operators state ≡ 0) × (fresh_state m n due operators state ≡ made)
  unfolding fresh_fits fitted_number filled_after state_bytes big_endian
  fresh_bytes state one_each nine =
      let byte : n % 256 ≡ n = mod-eq_of_lt (omega arith) in
      rw (eq-eqb _ _ one_each, eq-eqb _ _ nine, is) (refl, ap (λ (x : ℕ). x ∷ 0 ∷ 0 ∷ big_endian 4 due ++ big_endian 2 (owners_of operators n)) byte)

  module _ (due< : due < 2 ^ 32) where
    pub fresh_reads : state_of made ≡ (fresh m n due operators).fields
    unfolding state_of big_endian
    fresh_reads =
        let d = number_big 4 due due< in
        let o = number_big 2 (owners_of operators n) (omega (arith, small n (owners_of operators n) (λ p e. (gathered-has (λ p. eqb (get_or operators p 0) 1) n p e).0), pow_mono most, pow_mono shelf)) in
        (λ k. record { ports = n; initiator = record { 0 = 0 }; target = record { 0 = 0 }; due = d k; owners = o k }) ∙ ap (λ (f : Answer State). f.fields) (sym is)

    pub fresh_serves_in_bytes : (d : CCall) → Kept m made d → Lengths m made d → d.handed.slot ≡ due → d.handed.mode ≤ diagonal_mode m
        → length d.handed.block ≡ n * frame_len n → n * told_len n ≤ length d.handed.out → number d ≡ 0
    fresh_serves_in_bytes d kept right named mode block out =
        number_there m _ d kept right
        ∙ ap (λ (st : State). frames.number m st (on_frames m d)) fresh_reads
        ∙ fresh_serves m n due operators some most operated (on_frames m d) named (λ wrong. omega (arith, (limit_exactly m d.handed.mode).0 wrong)) block out
