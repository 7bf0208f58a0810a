-- What is known of live calls that were served: their states, and that their blocks fit a body.
use mathlib.Core.Path.{◌≡◌, refl, sym, ap, ◌∙◌}
use mathlib.Core.Bool.{Bool, false, cond, true≢false}
use mathlib.Core.List.{List, ◌++◌}
use Prim.Native.Nat.{ℕ, zero, suc, ◌+◌, ◌*◌, ◌%◌, ◌^◌, ◌≤◌, ◌<◌}
use native.Mathlib.Decide.{dec_lt}
use native.Mathlib.Omega.{arith}
use lib.Dec.{eqb, ltb, eqb-suc-zero}
use lib.ListN.{length}
use borrow.Author.Tests.{le-leb, lt-ltb, ltb-true}
use Rattle.laws.specs.Parts.{part, parts}
use Rattle.laws.specs.Steps.{steps}
use Rattle.laws.proofs.Loops.{same_steps}
use Rattle.laws.proofs.Parts.{length_parts, part_at}
use Rattle.laws.proofs.Tests.{every, arms}
use Rattle.frames.specs.Part.{most_ports, frame_len}
use Rattle.ports.specs.Modes.{diagonal_mode, mode_of}
use Rattle.ports.specs.Due.{wrong_limit, due_number, declined}
use Rattle.ports.specs.declared.state.State.{State}
use Rattle.ports.specs.Answer.{Stepped}
use Rattle.lcf.specs.Advance.{advance}
use Rattle.lcf.specs.Slot.{slot_on_tables}
use Rattle.ports.proofs.Numbers as tables
use Rattle.demands.specs.SlotCall.{SlotCall, number}
use Rattle.demands.proofs.SlotCalls.{tests_limit, limit_exactly, whole, same_number}
use Rattle.demands.proofs.SlotServed.{served_advances}
use Rattle.trace_parts.specs.Layout.{block_len, most_mode}
use Rattle.trace_parts.specs.Body.{formed}
use Rattle.trace_writer.proofs.Fitting.{BodyFits}
use Rattle.live_replays.specs.Live.{live_state, Served, recorded_fields}

-- ---- one served call

pub not_refused : (m : ℕ) (st : State) (r : ℕ) (x : Stepped) → (cond (eqb r 0) x (declined m st r)).answer.number ≡ 0 → r ≡ 0
unfolding declined
not_refused m st zero x e = refl
not_refused m st (suc r) x e = absurd (omega (arith, rw (eqb-suc-zero r) at e))

ready : (m : ℕ) (st : State) (c : SlotCall) → number m st c ≡ 0 → tables.Served m st c.mode
unfolding slot_on_tables
ready m st c e = tables.served m st c.slot c.mode (not_refused m st (due_number m st c.slot c.mode) _ (same_number m st c e))

limit_most : (m mode : ℕ) → wrong_limit m (mode_of m mode) ≡ false → mode ≤ diagonal_mode m
limit_most m mode e = go (dec_lt (diagonal_mode m) mode)
  where
    go : Dec (diagonal_mode m < mode) → mode ≤ diagonal_mode m
    go (yes l) = absurd (true≢false (sym ((tests_limit m (mode_of m mode)).1 ((limit_exactly m mode).1 l)) ∙ e))
    go (no l) = omega arith

-- ---- all of them

module _ (mode : ℕ) (calls : ℕ → SlotCall) (st : State) (slots : ℕ) (h : Served most_ports mode calls st slots) where
  abbrev n : ℕ
  n = st.ports

  abbrev live : ℕ → State
  live = live_state most_ports calls st

  live_first : live 0 ≡ st
  unfolding live_state steps
  live_first = refl

  pub live_next : (k : ℕ) → k < slots → live (suc k) ≡ advance (live k)
  unfolding live_state steps
  live_next k l = served_advances most_ports (live k) (calls k) (h.served k l)

  live_ports : (k : ℕ) → k ≤ slots → (live k).ports ≡ n
  unfolding advance
  live_ports zero l = ap (λ (s : State). s.ports) live_first
  live_ports (suc k) l = ap (λ (s : State). s.ports) (live_next k l) ∙ live_ports k (omega arith)

  -- The slot due before call k: after 4294967295 comes 0.
  pub live_due : (k : ℕ) → k ≤ slots → (live k).due ≡ (st.due + k) % 2 ^ 32
  unfolding advance
  live_due zero l = rw live_first (omega (arith, h.due-word))
  live_due (suc k) l = ap (λ (s : State). s.due) (live_next k l) ∙ omega (arith, live_due k (omega arith))

  -- the blocks are of one length
  block_long : (k : ℕ) → k < slots → length (calls k).block ≡ block_len n
  unfolding block_len
  block_long k l = (whole most_ports (live k) (calls k) (h.served k l)).whole_block ∙ ap (λ (p : ℕ). p * frame_len p) (live_ports k (omega arith))

  -- block i, and the first beyond the last
  abbrev padded : ℕ → List ℕ
  padded i = (calls (cond (ltb i slots) i 0)).block

  padded_long : (i : ℕ) → length (padded i) ≡ block_len n
  padded_long i = arms (λ j. length (calls j).block ≡ block_len n) (ltb i slots) i 0 (λ e. block_long i (ltb-true i slots e)) (λ _. block_long 0 h.some)

  padded_is : (i : ℕ) → i < slots → padded i ≡ (calls i).block
  padded_is i l = ap (λ (b : Bool). (calls (cond b i 0)).block) (lt-ltb i slots l)

  abbrev blocks : List ℕ
  blocks = parts (λ k. (calls k).block) slots

  same_blocks : blocks ≡ parts padded slots
  same_blocks = same_steps _ _ _ slots (λ k u l. ap (λ (b : List ℕ). u ++ b) (sym (padded_is k l)))

  pub block_among : (k : ℕ) → k < slots → part (k * block_len n) (block_len n) blocks ≡ (calls k).block
  block_among k l = rw same_blocks (part_at padded (block_len n) padded_long slots k l ∙ padded_is k l)

  -- they fit a body, for the mode and the state's offsets
  pub fits : BodyFits most_ports n slots (recorded_fields mode st) blocks
  unfolding formed most_mode
  fits =
      let first = rw live_first at (h.served 0 h.some) in
      let s = ready most_ports st (calls 0) first in
      record {
        some = omega (arith, s.ready.initiator);
        ports = s.ready.ports;
        least = h.some;
        most = h.most;
        long = ap length same_blocks ∙ length_parts padded (block_len n) padded_long slots;
        form = every (le-leb mode (most_mode n) (limit_most most_ports mode (ap (wrong_limit most_ports) (sym (h.one_mode 0 h.some)) ∙ s.limit)))
            (every (lt-ltb _ _ s.ready.initiator) (lt-ltb _ _ s.ready.target));
      }
