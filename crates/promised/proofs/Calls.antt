-- What a C call that kept its promise leaves: 8 for a wrong length, and otherwise what the slot call on frames says.
use mathlib.Core.Path.{◌≡◌, refl, sym, ap, ◌∙◌}
use mathlib.Core.Bool.{Bool, true, false, true≢false}
use mathlib.Core.List.{List, ◌++◌}
use Prim.Native.Nat.{ℕ, ◌^◌, ◌≤◌, ◌<◌}
use native.Mathlib.Nat.{lt_of_lt_of_le, mod-eq_of_lt}
use native.Mathlib.Decide.{ℕ_discrete}
use native.Mathlib.Omega.{arith}
use lib.Dec.{lit≤}
use lib.Pow.{pow_mono}
use lib.ListN.{take, drop, take-append-drop}
use borrow.Author.Tests.{eq-eqb, ne_eqb, eqb-true}
use Rattle.laws.specs.Bytes.{row}
use Rattle.laws.proofs.Tests.{both, every, refuted}
use Rattle.frames.specs.Part.{most_ports}
use Rattle.ports.specs.declared.state.State.{State}
use Rattle.ports.specs.Answer.{Answer}
use Rattle.lcf.specs.Advance.{advance}
use Rattle.demands.specs.SlotCall as frames
use Rattle.demands.specs.Numbers.{Row, given, passed}
use Rattle.demands.specs.Refusal.{InOrder}
use Rattle.demands.proofs.Calls as tables
use Rattle.demands.proofs.Refusal.{advance_valid}
use Rattle.demands.proofs.SlotCalls.{number_by_table, same_number}
use Rattle.demands.proofs.SlotGrants.{row_small}
use Rattle.demands.proofs.SlotRefusal.{declined_does_nothing}
use Rattle.demands.proofs.SlotServed.{served_advances}
use Rattle.table_bytes.specs.State.{state_of, state_bytes}
use Rattle.table_bytes.proofs.Fits.{length_state}
use Rattle.table_bytes.proofs.Trips.{state_reads_back}
use Rattle.bellacush.specs.Slot.{word_of, state_after, table_after, fits, run, slot_word, slot_state, slot_table, slot_output}
use Rattle.bellacush.proofs.Trips.{word_number, word-rounds}
use Rattle.promised.specs.Call.{Left, number_in, rounds_in, CCall, number, Kept, on_frames, Lengths}
use Rattle.promised.specs.Share.{holds}
use Rattle.promised.specs.Demanded.{Served}
use Rattle.promised.proofs.States.{front, valid_fits}
use Rattle.promised.proofs.Tables.{holds-asks}

-- no number of the table is above 7
row_most : {k : ℕ} {applies : Type 0} {below : ℕ → Type 0} → k ≤ 7 → ((x : ℕ) → below x → x ≤ 7) → (x : ℕ) → Row k applies below x → x ≤ 7
row_most most rest x (given a e) = omega arith
row_most most rest x (passed n r) = rest x r

number_most : (m : ℕ) (st : State) (c : frames.SlotCall) → frames.number m st c ≤ 7
number_most m st c =
    row_most (lit≤ tt) (row_most (lit≤ tt) (row_most (lit≤ tt) (row_most (lit≤ tt) (row_most (lit≤ tt) (row_most (lit≤ tt) (row_most (lit≤ tt) (λ x e. omega arith)))))))
    _ ((number_by_table m st c (frames.number m st c)).0 refl)

module _ (m : ℕ) (state : List ℕ) (d : CCall) where
  -- the state that the bytes are, and the answer of the slot call on frames
  abbrev st : State
  st = state_of state

  abbrev answer : Answer
  answer = (frames.called m st (on_frames m d)).answer

  small : answer.number < 256
  small = omega (arith, number_most m st (on_frames m d))

  -- all that was lent is as it was; and as a served call leaves it
  abbrev pub unchanged : ℕ → Left
  unchanged word = record { word = word; state = state; out = d.handed.out; table = d.handed.table }

  abbrev pub changed : Left
  changed =
      record {
        word = word_of answer;
        state = state_bytes (frames.next m st (on_frames m d)) ++ drop d.handed.lent state;
        out = frames.output_after m st (on_frames m d);
        table = row 2 answer.sets;
      }

  -- the lengths are right, or they are not
  abbrev fit : Bool
  fit = let c = d.handed in fits m (take c.lent state) c.slot c.mode c.block c.out c.table

  right_fit : Lengths m state d → fit ≡ true
  unfolding fits
  right_fit right = every (eq-eqb _ _ right.nine) (eq-eqb _ _ right.two_each)

  fit_right : fit ≡ true → Lengths m state d
  unfolding fits
  fit_right e = let (x, y) = both _ _ e in record { nine = eqb-true _ _ x; two_each = eqb-true _ _ y }

  pub lengths? : Dec (Lengths m state d)
  lengths? = go fit refl
    where
      go : (b : Bool) → fit ≡ b → Dec (Lengths m state d)
      go true e = yes (fit_right e)
      go false e = no (λ right. true≢false (sym (right_fit right) ∙ e))

  module _ (kept : Kept m state d) where
    unfit : (Lengths m state d → ⊥) → d.left ≡ unchanged 8
    unfolding slot_word slot_state slot_table slot_output
    unfit wrong = kept ∙ rw (refuted fit (λ e. wrong (fit_right e)), take-append-drop)

    module _ (right : Lengths m state d) where
      -- the lent bytes are the front of the state's
      same_bytes : state_of (take d.handed.lent state) ≡ st
      same_bytes = sym (front (take d.handed.lent state) (drop d.handed.lent state) right.nine) ∙ ap state_of (take-append-drop d.handed.lent state)

      declined : (answer.number ≡ 0 → ⊥) → d.left ≡ unchanged answer.number
      unfolding slot_word slot_state slot_table slot_output run state_after table_after
      declined some =
          let (nothing, same) = declined_does_nothing m st (on_frames m d) some in
          let word : word_of answer ≡ answer.number = omega (arith, nothing.no_rounds) in
          kept ∙ rw (right_fit right, same_bytes, ne_eqb answer.number 0 some, take-append-drop, same) (ap unchanged word)

      done : answer.number ≡ 0 → d.left ≡ changed
      unfolding slot_word slot_state slot_table slot_output run state_after table_after
      done none = kept ∙ rw (right_fit right, same_bytes, eq-eqb answer.number 0 none)

      pub number_there : number d ≡ answer.number
      number_there = go (ℕ_discrete answer.number 0)
        where
          go : Dec (answer.number ≡ 0) → number d ≡ answer.number
          go (yes none) = ap number_in (done none) ∙ word_number answer small
          go (no some) = ap number_in (declined some) ∙ mod-eq_of_lt small

    pub wrong_lengths : (Lengths m state d → ⊥) → number d ≡ 8
    wrong_lengths wrong = ap number_in (unfit wrong)

    -- a declined call, with 8 or any other number, changes nothing, and its word is that number alone
    pub declined_keeps : (number d ≡ 0 → ⊥) → d.left ≡ unchanged (number d)
    declined_keeps some = go lengths?
      where
        go : Dec (Lengths m state d) → d.left ≡ unchanged (number d)
        go (yes right) = declined right (λ e. some (number_there right ∙ e)) ∙ ap unchanged (sym (number_there right))
        go (no wrong) = unfit wrong ∙ ap unchanged (sym (wrong_lengths wrong))

    pub served_lengths : number d ≡ 0 → Lengths m state d
    served_lengths served = go lengths?
      where
        go : Dec (Lengths m state d) → Lengths m state d
        go (yes right) = right
        go (no wrong) = absurd (omega (arith, wrong_lengths wrong))

    -- a served call leaves what the slot call on frames says
    pub served_left : number d ≡ 0 → d.left ≡ changed
    served_left served = let right = served_lengths served in done right (sym (number_there right) ∙ served)

    -- the owners being of two bytes
    pub served_call : m ≤ most_ports → st.owners < 256 ^ 2 → number d ≡ 0 → Served m state d
    unfolding advance
    served_call most owners served = record {
      at_frames = none;
      same_state = ap (λ (l : Left). state_of l.state) left
          ∙ front (state_bytes after) (drop d.handed.lent state) (length_state after)
          ∙ state_reads_back after (valid_fits m most after (rw moved (advance_valid m st in_order)) (rw moved owners));
      same_table = λ i t. ap (λ (l : Left). holds l.table i t) left
          ∙ holds-asks answer.sets (λ k. lt_of_lt_of_le (row_small m most st (on_frames m d) none k) (pow_mono most)) i t;
      same_output = ap (λ (l : Left). l.out) left;
      same_rounds = ap rounds_in left ∙ word-rounds answer small;
    }
      where
        none : answer.number ≡ 0
        none = sym (number_there (served_lengths served)) ∙ served

        left : d.left ≡ changed
        left = served_left served

        after : State
        after = frames.next m st (on_frames m d)

        moved : after ≡ advance st
        moved = served_advances m st (on_frames m d) none

        in_order : InOrder m st
        in_order = (tables.served_call m st (frames.on_tables m st (on_frames m d)) (same_number m st (on_frames m d) none)).in_order
