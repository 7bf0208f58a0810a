-- Works that one operator cannot tell apart stay so through the planned stage and through every mode.
use mathlib.Core.Path.{◌≡◌, refl, sym, ap, ap₂, ◌∙◌}
use mathlib.Core.Bool.{Bool, true, false, ◌&&◌, cond}
use mathlib.Core.List.{List}
use Prim.Native.Nat.{ℕ, ◌%◌, ◌^◌}
use lib.Dec.{eqb}
use lib.ListN.{length, get_or, length-replicate}
use Rattle.laws.specs.Sets.{has, asks, column}
use Rattle.laws.proofs.Tests.{arms}
use Rattle.laws.proofs.Steps.{kept}
use Rattle.laws.proofs.Members.{gathered-has, below_has, tabled-asks}
use Rattle.laws.proofs.Rows.{length_tabled, no_bits}
use Rattle.ports.specs.Tables.{within}
use Rattle.ports.specs.Due.{due_number, declined}
use Rattle.ports.specs.declared.state.State.{State}
use Rattle.ports.specs.declared.state.Mode.{Mode}
use Rattle.ports.specs.declared.state.Mode.TheVariants.{Central, Distributed, Diagonal}
use Rattle.choices.specs.Choice.{fewest}
use Rattle.choices.specs.Join.{join_live}
use Rattle.planned.specs.Planned.{planner, give, planned, start}
use Rattle.central.specs.Central.{winner, serve, central}
use Rattle.central.specs.Diagonal.{diagonal}
use Rattle.lcf.specs.Slot.{diagonal_first, serve_mode, matched, ended, slot_on_tables}
use Rattle.distributed.specs.Distributed.{askers, grants, offers, accepted, answer, round, one_more, rounds, distributed}
use Rattle.choices.specs.Live.{any_live}
use Rattle.choices.specs.declared.work.Work.{Work}
use Rattle.choices.specs.declared.work.Run.{Run}
use Rattle.demands.proofs.Keeps.{offered}
use Rattle.demands.proofs.Progress.{none_live}
use Rattle.operators.specs.Unaffected.{Unaffected}
use Rattle.operators.proofs.Agreeing.{steps_alike, tabled-agrees, sizes_agree, gathered-agrees, choice-agrees}
use Rattle.operators.proofs.Alike.{Apart, Agree, Alike, asked_alike, step_alike}

-- a round that begins with nothing live changes nothing
round_none : (st : State) (s : Work) → any_live s.live st.ports ≡ false → round st s ≡ s
unfolding round answer
round_none st s none = kept _ _ (λ k (u : Work). u ≡ s) st.ports
    (λ i u l e. arms (λ (v : Work). v ≡ s) (has (offers st s.live (grants st s.live) i) (accepted st (askers st s.live) (offers st s.live (grants st s.live) i) i)) _ _
    (λ o. absurd (none_live s.live st.ports none (record { initiator = i; target = _; below = l; asked = (offered st s.live _ i _ o).0 }))) (λ o. e)) refl

-- so a run goes on by a round, whether it counts or not
more : (st : State) (r : Run) → (one_more st r).work ≡ round st r.work
unfolding one_more
more st r = arms (λ (v : Run). v.work ≡ round st r.work) (any_live r.work.live st.ports) _ _ (λ e. refl) (λ e. sym (round_none st r.work e))

module _ (own : ℕ → Bool) (st : State) where
  -- ---- the choices over tables that agree

  module _ {a b : List ℕ} (h : Agree own a b) where
    column_alike : (t : ℕ) → own t ≡ true → column a st.ports t ≡ column b st.ports t
    column_alike t o = gathered-agrees _ _ st.ports (λ i l. asked_alike own h t o i)

    -- a claimant or asker of an own target is an own initiator
    asker_own : (t : ℕ) → own t ≡ true → (i : ℕ) → has (column b st.ports t) i ≡ true → own i ≡ true
    asker_own t o i e = h.right i t (gathered-has (λ i. asks b i t) st.ports i e).1 ∙ o

    planner_alike : (t : ℕ) → own t ≡ true → planner st a t ≡ planner st b t
    unfolding planner
    planner_alike t o = rw (column_alike t o)

    fewest_alike : (t x : ℕ) → own t ≡ true → fewest a st.ports t x ≡ fewest b st.ports t x
    unfolding fewest
    fewest_alike t x o = rw (column_alike t o)
        (choice-agrees (has (column b st.ports t)) _ _ st.ports x (λ i e. sizes_agree a b i (h.row i (asker_own t o i e))))

    winner_alike : (t x : ℕ) → own t ≡ true → winner a st.ports t x ≡ winner b st.ports t x
    unfolding winner
    winner_alike t x o = rw (asked_alike own h t o x, fewest_alike t x o)

    grants_alike : (t : ℕ) → own t ≡ true → get_or (grants st a) t 0 ≡ get_or (grants st b) t 0
    unfolding grants
    grants_alike t o = rw h.as_long (tabled-agrees (length b) _ _ st.ports t (λ l. fewest_alike t _ o))

    askers_alike : (t : ℕ) → own t ≡ true → get_or (askers st a) t 0 ≡ get_or (askers st b) t 0
    unfolding askers
    askers_alike t o = rw h.as_long (tabled-agrees (length b) _ _ st.ports t (λ l. column_alike t o))

    offers_alike : (i : ℕ) → own i ≡ true → offers st a (grants st a) i ≡ offers st b (grants st b) i
    unfolding offers
    offers_alike i o = gathered-agrees _ _ st.ports (λ t l. ap (λ r. has r t && eqb (get_or (grants st a) t 0) i) (h.row i o) ∙ go t (asks b i t) refl)
      where
        go : (t : ℕ) (z : Bool) → asks b i t ≡ z → z && eqb (get_or (grants st a) t 0) i ≡ z && eqb (get_or (grants st b) t 0) i
        go t true e = ap (λ g. eqb g i) (grants_alike t (sym (h.right i t e) ∙ o))
        go t false e = refl

    accepted_alike : (i : ℕ) → own i ≡ true → accepted st (askers st a) (offers st a (grants st a) i) i ≡ accepted st (askers st b) (offers st b (grants st b) i) i
    unfolding accepted
    accepted_alike i o = rw (offers_alike i o)
        (choice-agrees (has (offers st b (grants st b) i)) _ _ st.ports _ (λ t e. sizes_agree (askers st a) (askers st b) t (askers_alike t (sym (h.right i t (offered st b (grants st b) i t e).0) ∙ o))))

  -- ---- a live pair is joined: the central rule, the diagonal, and the favoured pair

  live_alike : (s u : Work) (w x c : ℕ) → (own c ≡ true → w ≡ x) → Alike own s u → Alike own (join_live s w c) (join_live u x c)
  unfolding join_live
  live_alike s u w x c same h = step_alike own s u (own c) (asks s.live w c) (asks u.live x c) w x c c
      (λ o. (asked_alike own h.live c o w ∙ ap (λ i. asks u.live i c) (same o), same o, refl))
      (λ o. (λ e. (h.live.left w c e ∙ o, o), λ e. (h.live.right x c e ∙ o, o))) h

  central_alike : (s u : Work) → Alike own s u → Alike own (central st s st.ports) (central st u st.ports)
  unfolding serve
  central_alike s u = steps_alike (Alike own) _ _ s u st.ports (λ k s u h. live_alike s u _ _ _ (winner_alike h.live _ _) h)

  diagonal_alike : (s u : Work) → Alike own s u → Alike own (diagonal st s st.ports) (diagonal st u st.ports)
  diagonal_alike s u = steps_alike (Alike own) _ _ s u st.ports (λ k s u. live_alike s u _ _ _ (λ o. refl))

  -- ---- the planned stage

  planned_alike : (a b : List ℕ) → Agree own a b → (s u : Work) → Alike own s u → Alike own (planned st a s) (planned st b u)
  unfolding planned give
  planned_alike a b h s u = steps_alike (Alike own) _ _ s u st.ports (λ t s u.
      step_alike own s u (own t) (asks a (planner st a t) t) (asks b (planner st b t) t) (planner st a t) (planner st b t) t t
      (λ o. (asked_alike own h t o _ ∙ ap (λ i. asks b i t) (planner_alike h t o), planner_alike h t o, refl))
      (λ o. (λ e. (h.left _ t e ∙ o, o), λ e. (h.right _ t e ∙ o, o))))

  -- ---- a round, and rounds

  answer_alike : {a b : List ℕ} → Agree own a b → (i : ℕ) (s u : Work) → Alike own s u → Alike own (answer st a (askers st a) (grants st a) i s) (answer st b (askers st b) (grants st b) i u)
  unfolding answer
  answer_alike {a} {b} h i s u = step_alike own s u (own i) _ _ i i _ _
      (λ o. (ap₂ has (offers_alike h i o) (accepted_alike h i o), refl, accepted_alike h i o))
      (λ o. (λ e. (o, sym (h.left i _ (offered st a _ i _ e).0) ∙ o), λ e. (o, sym (h.right i _ (offered st b _ i _ e).0) ∙ o)))

  round_alike : (s u : Work) → Alike own s u → Alike own (round st s) (round st u)
  unfolding round
  round_alike s u h = steps_alike (Alike own) _ _ _ _ st.ports (answer_alike h.live) h

  -- as many rounds in both; in one of them they may have come to an end earlier
  rounds_alike : (limit : ℕ) (r v : Run) → Alike own r.work v.work → Alike own (rounds st r limit).work (rounds st v limit).work
  rounds_alike limit r v = steps_alike (λ (r v : Run). Alike own r.work v.work) _ _ r v limit
      (λ k r v h. rw (more st r, more st v) (round_alike r.work v.work h))

  -- ---- every mode

  mode_alike : (mode : Mode) (s u : Work) → Alike own s u → Alike own (serve_mode st mode s).work (serve_mode st mode u).work
  unfolding serve_mode distributed diagonal_first
  mode_alike Central s u h = central_alike s u h
  mode_alike (Distributed limit) s u h = rounds_alike limit _ _ (live_alike s u _ _ _ (λ o. refl) h)
  mode_alike Diagonal s u h = central_alike _ _ (diagonal_alike s u h)

  -- ---- the slot on tables

  within_apart : (a : List ℕ) → Apart own a → Apart own (within st.ports a)
  unfolding within
  within_apart a h i t e = h i t (below_has (get_or a i 0) st.ports t (tabled-asks (length a) (λ i. get_or a i 0 % 2 ^ st.ports) st.ports i t e).1).1

  within_agree : (a b : List ℕ) → Agree own a b → Agree own (within st.ports a) (within st.ports b)
  unfolding within
  within_agree a b h = record {
    left = within_apart a h.left;
    right = within_apart b h.right;
    row = λ i o. rw h.as_long (tabled-agrees (length b) _ _ st.ports i (λ l. ap (λ r. r % 2 ^ st.ports) (h.row i o)));
    as_long = length_tabled (length a) _ _ ∙ h.as_long ∙ sym (length_tabled (length b) _ _);
  }

  start_alike : (a b c d : List ℕ) → Agree own a b → Agree own c d → Alike own (start st a c) (start st b d)
  unfolding start
  start_alike a b c d req pre = planned_alike _ _ (within_agree c d pre) _ _
      (record { live = within_agree a b req; held = λ i o. no_bits (length a) i ∙ sym (no_bits (length b) i); as_long = length-replicate (length a) 0 ∙ req.as_long ∙ sym (length-replicate (length b) 0) })

  -- What a slot on tables gives the operator depends on no more than the rows of its own initiators.
  pub tables_unaffected : (m slot : ℕ) (mode : Mode) (a b c d : List ℕ) → Agree own a b → Agree own c d
      → Unaffected own (slot_on_tables m st slot mode a c) (slot_on_tables m st slot mode b d)
  unfolding slot_on_tables ended matched
  tables_unaffected m slot mode a b c d req pre = go (eqb (due_number m st slot mode) 0)
    where
      go : (z : Bool) → Unaffected own (cond z (ended st (matched st mode a c)) (declined m st (due_number m st slot mode))) (cond z (ended st (matched st mode b d)) (declined m st (due_number m st slot mode)))
      go true = let h = mode_alike mode _ _ (start_alike a b c d req pre) in record { number = refl; state = refl; sets = h.held; as_long = h.as_long }
      go false = record { number = refl; state = refl; sets = λ i o. refl; as_long = refl }
