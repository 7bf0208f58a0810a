-- Every history of C calls is one of calls by value, so what is proved of those holds of the lent records, pool and state.
use mathlib.Core.Path.{◌≡◌, refl, sym, ap, ◌∙◌}
use mathlib.Core.Bool.{Bool, true, false, ◌&&◌, ◌||◌, cond, true≢false}
use mathlib.Core.Logic.{⊎_elim}
use mathlib.Core.List.{List, [], ◌∷◌, ◌++◌}
use Prim.Native.Nat.{ℕ, ◌+◌, ◌*◌, ◌%◌, ◌^◌, ◌≤◌, ◌<◌}
use native.Mathlib.Nat.{lt_of_lt_of_le}
use native.Mathlib.Omega.{arith}
use lib.Dec.{eqb, ltb, leb, lit<}
use lib.Pow.{pow_mono}
use lib.ListN.{length, get_or, replicate}
use borrow.Author.Tests.{eqb-false}
use Rattle.laws.specs.Sets.{asks}
use Rattle.laws.specs.Bytes.{Bytes}
use Rattle.laws.proofs.Tests.{arms}
use Rattle.frames.specs.Part.{most_ports}
use Rattle.ports.specs.Due.{behind, wrong_limit, due_number, declined}
use Rattle.ports.specs.Modes.{mode_of}
use Rattle.ports.specs.declared.state.State.{State}
use Rattle.ports.specs.declared.state.Mode.{Mode}
use Rattle.ports.specs.Answer.{Stepped}
use Rattle.demands.specs.History.{Below, after, how_many}
use Rattle.demands.proofs.Calls.{call_cases}
use Rattle.demands.proofs.Connections.{nothing_from_nowhere}
use Rattle.demands.proofs.Histories.{owners_kept}
use Rattle.demands.proofs.Refusal.{advance_valid}
use Rattle.demands.proofs.Small.{small}
use Rattle.table_bytes.specs.State.{state_of, state_bytes}
use Rattle.table_bytes.proofs.Trips.{state_reads_back, owners_small}
use Rattle.bellacush.specs.Slot.{word_of, state_after, table_after}
use Rattle.bellacush.proofs.Trips.{word_number}
use Rattle.promised.specs.Share.{holds}
use Rattle.promised.proofs.States.{valid_fits}
use Rattle.promised.proofs.Tables.{holds-asks}
use Rattle.queue_records.specs.Queue.{queue_of}
use Rattle.queue_steps.specs.Step.{requests, scheduled, fits, roomy, stepped}
use Rattle.queues.specs.Serving.{answered, slot_words, slot_output}
use Rattle.queue_calls.specs.Slot.{lent_fit, run, call_word, call_state, call_table, call_records, call_output}
use Rattle.queued.specs.Shelf.{Shelf, Call, Slot, number, next, served, queue, grants}
use Rattle.queued.specs.History.{through, came, went}
use Rattle.queued.specs.CShelf.{CShelf, CCall, CCell, CSlot, shelf_of, c_number, c_served, c_next, by_value, number_by_value}
use Rattle.queued.proofs.Calls.{not_served_keeps}
use Rattle.queued.proofs.Bound.{on_tables, is_served, moves, in_order, head_forwarded}
use Rattle.queued.proofs.Histories.{first_in_first_out}

after_both : {S C : Type 0} (next : S → C → S) (xs ys : List C) (s : S) → after next s (xs ++ ys) ≡ after next (after next s xs) ys
unfolding after
after_both next [] ys s = refl
after_both next (x ∷ xs) ys s = after_both next xs ys (next s x)

many_both : {S C : Type 0} (next : S → C → S) (p : S → C → Bool) (xs ys : List C) (s : S)
    → how_many next p s (xs ++ ys) ≡ how_many next p s xs + how_many next p (after next s xs) ys
unfolding after how_many
many_both next p [] ys s = omega arith
many_both next p (x ∷ xs) ys s = let later = many_both next p xs ys (next s x) in omega arith

-- ---- one call

few_cases : (a b d e f : Bool) → cond a 1 (cond b 2 (cond d 3 (cond e 4 (cond f 5 0)))) < 256
few_cases true b d e f = omega arith
few_cases false true d e f = omega arith
few_cases false false true e f = omega arith
few_cases false false false true f = omega arith
few_cases false false false false true = omega arith
few_cases false false false false false = omega arith

module _ (m c w : ℕ) where
  -- a number is one of a byte
  due_few : (st : State) (slot : ℕ) (mode : Mode) → due_number m st slot mode < 256
  unfolding due_number
  due_few st slot mode =
      few_cases (ltb st.ports 1 || ltb m st.ports) (leb st.ports st.initiator.0 || leb st.ports st.target.0)
      (leb 1 (behind st slot) && leb (behind st slot) (2 ^ 31)) (ltb (2 ^ 31) (behind st slot)) (wrong_limit m mode)

  slot_few : (words : List ℕ) (st : State) (slot : ℕ) (mode : Mode) (len room : ℕ) → (stepped m c w words st slot mode len room).answer.number < 256
  unfolding stepped roomy declined
  slot_few words st slot mode len room =
      let small : Stepped → Type 0 = λ r. r.answer.number < 256 in
      let run-few : small (scheduled m words st slot mode) =
      call_cases m st (record { slot = slot; mode = mode; req = requests m words; pre = replicate m 0 }) small (λ _. lit< tt) (λ x _ why. rw why at (due_few st slot mode)) in
      arms small (fits m c w words st len) _ _
      (λ _. arms small (eqb (scheduled m words st slot mode).answer.number 0) _ _ (λ _. arms small (ltb room (st.ports * w)) _ _ (λ _. lit< tt) (λ _. run-few)) (λ _. run-few))
      (λ _. lit< tt)

  pub same_number : (s : CShelf) (x : CCall) → c_number m c w s x ≡ number_by_value m c w s (by_value m s x)
  unfolding c_number by_value number_by_value number call_word run
  same_number s (CCell i t bytes) = refl
  same_number s (CSlot slot mode out table) = go (lent_fit m s.state table)
    where
      r : Stepped
      r = answered m c w s.words (state_of s.state) slot (mode_of m mode) s.pool out

      go : (b : Bool) → cond b (word_of r.answer) 8 % 256 ≡ number_by_value m c w s (cond b (Slot slot (mode_of m mode) out ∷ []) [])
      go true = word_number r.answer (slot_few s.words (state_of s.state) slot (mode_of m mode) (length s.pool) (length out))
      go false = refl

  owners_after : (calls : List Call) (s : Shelf) → (after (next m c w) s calls).state.owners ≡ s.state.owners
  unfolding after
  owners_after [] s = refl
  owners_after (x ∷ calls) s = owners_after calls (next m c w s x) ∙ owners_kept (moves m c w) m s x tt

  -- a call is a served slot in both forms, or in none
  same_served : (s : CShelf) (x : CCall) → how_many (next m c w) (served m c w) (shelf_of s) (by_value m s x) ≡ cond (c_served m c w s x) 1 0
  unfolding how_many c_served served by_value number_by_value
  same_served s (CCell i t bytes) = refl
  same_served s (CSlot slot mode out table) = rw (same_number s (CSlot slot mode out table)) (go (lent_fit m s.state table))
    where
      y : Call
      y = Slot slot (mode_of m mode) out

      go : (b : Bool) → how_many (next m c w) (served m c w) (shelf_of s) (cond b (y ∷ []) []) ≡ cond (eqb (number_by_value m c w s (cond b (y ∷ []) [])) 0) 1 0
      go true = omega arith
      go false = refl

  module _ (most : m ≤ most_ports) where
    -- what a slot leaves of the state's bytes are the bytes of the state that it leaves
    slot_state : (s : CShelf) (slot : ℕ) (mode : Mode) (out : List ℕ) → (state_of s.state).owners < 2 ^ 16
        → let r = answered m c w s.words (state_of s.state) slot mode s.pool out in
        state_of (state_after r s.state) ≡ r.state
    unfolding state_after next served number
    slot_state s slot mode out small = go (eqb r.answer.number 0) refl
      where
        r : Stepped
        r = answered m c w s.words (state_of s.state) slot mode s.pool out

        go : (b : Bool) → eqb r.answer.number 0 ≡ b → state_of (cond b (state_bytes r.state) s.state) ≡ r.state
        go true e =
            let moved = (moves m c w).served_advances (shelf_of s) (Slot slot mode out) tt e in
            state_reads_back r.state (valid_fits m most r.state (rw moved (advance_valid m (state_of s.state) (in_order m c w (shelf_of s) slot mode out e))) (rw (owners_kept (moves m c w) m (shelf_of s) (Slot slot mode out) tt) small))
        go false e = sym (not_served_keeps m c w s.words (state_of s.state) slot mode (length s.pool) (length out) (eqb-false _ 0 e))

    one_c_call : (s : CShelf) (x : CCall) → (state_of s.state).owners < 2 ^ 16 → shelf_of (c_next m c w s x) ≡ after (next m c w) (shelf_of s) (by_value m s x)
    unfolding c_next by_value after next call_records call_state run
    one_c_call s (CCell i t bytes) small = refl
    one_c_call s (CSlot slot mode out table) small = go (lent_fit m s.state table)
      where
        words : List ℕ
        words = slot_words m c w s.words (state_of s.state) slot (mode_of m mode) s.pool out

        r : Stepped
        r = answered m c w s.words (state_of s.state) slot (mode_of m mode) s.pool out

        go : (b : Bool) → ◌≡◌ {A = Shelf} (record { words = cond b words s.words; pool = s.pool; state = state_of (cond b (state_after r s.state) s.state) })
            (after (next m c w) (shelf_of s) (cond b (Slot slot (mode_of m mode) out ∷ []) []))
        go true = ap (λ (st : State). record { words = words; pool = s.pool; state = st }) (slot_state s slot (mode_of m mode) out small)
        go false = refl

    -- What C finds after a slot that was served: in the table's bytes the grants, and in the output what the call by value writes.
    module _ (s : CShelf) (slot mode : ℕ) (out table : List ℕ) (done : c_served m c w s (CSlot slot mode out table) ≡ true) where
      abbrev r : Stepped
      r = answered m c w s.words (state_of s.state) slot (mode_of m mode) s.pool out

      abbrev x : Call
      x = Slot slot (mode_of m mode) out

      as_known : (lent_fit m s.state table ≡ true) × (served m c w (shelf_of s) x ≡ true)
      unfolding c_served served by_value number_by_value
      as_known = go (lent_fit m s.state table) (rw (same_number s (CSlot slot mode out table)) at done)
        where
          go : (b : Bool) → eqb (number_by_value m c w s (cond b (x ∷ []) [])) 0 ≡ true → (b ≡ true) × (eqb (number m c w (shelf_of s) x) 0 ≡ true)
          go true e = (refl, e)
          go false e = absurd (true≢false (sym e))

      row_small : (k : ℕ) → get_or r.answer.sets k 0 < 2 ^ m
      row_small k = small m (get_or r.answer.sets k 0) (λ t e.
          let on-run = sym (ap (λ (z : Stepped). asks z.answer.sets k t) (is_served m c w (shelf_of s) slot (mode_of m mode) out as_known.1).is_run) ∙ e in
          let from = nothing_from_nowhere m (state_of s.state) (on_tables m c w (shelf_of s) slot (mode_of m mode)) k t on-run in
          let t< : t < (state_of s.state).ports = ⊎_elim (λ g. g.target) (λ l. l.0.target) from in
          omega (arith, (in_order m c w (shelf_of s) slot (mode_of m mode) out as_known.1).ports_at_most))

      pub c_grants : (i t : ℕ) → holds (call_table m c w s.state slot mode s.words s.pool out table) i t ≡ grants m c w i t (shelf_of s) x
      unfolding call_table table_after run grants served number
      c_grants i t =
          let (fit, zero) = as_known in
          rw (fit, zero) (holds-asks r.answer.sets (λ k. lt_of_lt_of_le (row_small k) (pow_mono most)) i t)

      pub c_output : call_output m c w s.state slot mode s.words s.pool out table ≡ slot_output m c w s.words (state_of s.state) slot (mode_of m mode) s.pool out
      unfolding call_output
      c_output = rw as_known.0

    pub by_value_lem : (calls : List CCall) (s : CShelf) → (state_of s.state).owners < 2 ^ 16
        → shelf_of (after (c_next m c w) s calls) ≡ after (next m c w) (shelf_of s) (through (c_next m c w) (by_value m) s calls)
    unfolding after through
    by_value_lem [] s small = refl
    by_value_lem (x ∷ calls) s small =
        let one = one_c_call s x small in
        let owners = ap (λ (z : Shelf). z.state.owners) one ∙ owners_after (by_value m s x) (shelf_of s) in
        by_value_lem calls (c_next m c w s x) (rw owners small)
        ∙ ap (λ (z : Shelf). after (next m c w) z (through (c_next m c w) (by_value m) (c_next m c w s x) calls)) one
        ∙ sym (after_both (next m c w) (by_value m s x) _ (shelf_of s))

    -- First in, first out over any history of C calls on bytes, whatever lengths, modes and slots they are handed.
    pub c_first_in_first_out : (i t : ℕ) (s : CShelf) → Bytes s.state → (calls : List CCall)
        → let played = through (c_next m c w) (by_value m) s calls in
        let left = after (c_next m c w) s calls in
        went m c w i t (shelf_of s) played ++ queue_of m w left.words left.pool i t ≡ queue_of m w s.words s.pool i t ++ came m c w i t (shelf_of s) played
    c_first_in_first_out i t s bytes calls =
        let played = through (c_next m c w) (by_value m) s calls in
        ap (λ (z : Shelf). went m c w i t (shelf_of s) played ++ queue m c w i t z) (by_value_lem calls s (owners_small s.state bytes)) ∙ first_in_first_out m c w i t (shelf_of s) played

    served_alike : (calls : List CCall) (s : CShelf) → (state_of s.state).owners < 2 ^ 16
        → how_many (next m c w) (served m c w) (shelf_of s) (through (c_next m c w) (by_value m) s calls) ≡ how_many (c_next m c w) (c_served m c w) s calls
    unfolding how_many through
    served_alike [] s small = refl
    served_alike (x ∷ calls) s small =
        let one = one_c_call s x small in
        let owners = ap (λ (z : Shelf). z.state.owners) one ∙ owners_after (by_value m s x) (shelf_of s) in
        let later = through (c_next m c w) (by_value m) (c_next m c w s x) calls in
        many_both (next m c w) (served m c w) (by_value m s x) later (shelf_of s)
        ∙ rw (same_served s x, ← one, served_alike calls (c_next m c w s x) (rw owners small))

    -- Within n² served slots, by the numbers that C sees, the head of a queue is the first cell to go out.
    pub c_head_forwarded : (i t : ℕ) → i < m → t < m → (s : CShelf) → Bytes s.state → (calls : List CCall) (h : List ℕ) (rest : List (List ℕ))
        → let n = (state_of s.state).ports in
        Below (state_of s.state) → i < n → t < n → queue_of m w s.words s.pool i t ≡ h ∷ rest → n * n ≤ how_many (c_next m c w) (c_served m c w) s calls
        → (more : List (List ℕ)) × (went m c w i t (shelf_of s) (through (c_next m c w) (by_value m) s calls) ≡ h ∷ more)
    c_head_forwarded i t hi ht s bytes calls h rest below i< t< is enough =
        head_forwarded m c w i t hi ht (shelf_of s) (through (c_next m c w) (by_value m) s calls) h rest below i< t< is (rw (served_alike calls s (owners_small s.state bytes)) enough)
