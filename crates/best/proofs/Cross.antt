-- Where the live requests form a cross at (I, J), every mode joins the favoured pair and nothing else, where two pairs could be joined.
use mathlib.Core.Path.{◌≡◌, refl, sym, ap₂, subst}
use mathlib.Core.Logic.{◌⊎◌, inl, inr, ⊎_elim, ◌↔◌}
use mathlib.Core.Bool.{true}
use mathlib.Core.List.Memᴰ
use mathlib.Core.List.{List, [], ◌∷◌}
use Prim.Native.Nat.{ℕ, ◌≤◌}
use native.Mathlib.Omega.{arith}
use lib.ListN.{length}
use Rattle.laws.specs.Sets.{asks}
use Rattle.ports.specs.declared.state.State.{State}
use Rattle.choices.specs.Join.{join}
use Rattle.planned.specs.Planned.{start}
use Rattle.lcf.specs.Slot.{matched}
use Rattle.choices.specs.declared.work.Work.{Work}
use Rattle.demands.specs.Call as tables
use Rattle.demands.specs.Origin.{Given, Live}
use Rattle.demands.specs.SlotCall.{SlotCall, number, sets, on_tables}
use Rattle.demands.specs.Block as frames
use Rattle.demands.proofs.Join.{live_left, held_cases, held_now}
use Rattle.demands.proofs.Keeps.{mode_favours}
use Rattle.demands.proofs.Stage.{start_held, start_live, start_rows}
use Rattle.demands.proofs.Calls.{served_call}
use Rattle.demands.proofs.SlotCalls.{whole, same_number}
use Rattle.demands.proofs.SlotHosts.{live_exactly}
use Rattle.best.specs.Pairs.{Pair, NoneTwice, ConflictFree, Exactly}
use Rattle.best.specs.Best.{Joined, Compared}
use Rattle.best.specs.Cross.{Cross}
use Rattle.best.proofs.Counting.{meets}
use Rattle.best.proofs.Half.{rows_there, compared_on_frames}

-- On tables.
module _ (m : ℕ) (st : State) (c : tables.Call) (done : tables.number m st c ≡ 0) (rows : st.ports ≤ length c.req)
    (cross : Cross (Live st c.req c.pre) st.initiator.0 st.target.0) where
  i : ℕ
  i = st.initiator.0

  t : ℕ
  t = st.target.0

  s : Work
  s = start st c.req c.pre

  -- the favoured pair is joined, nothing else but what was given is held, and nothing is live
  record One (u : Work) : Type 0 where
    held : asks u.held i t ≡ true
    or_given : (j v : ℕ) → asks u.held j v ≡ true → (asks s.held j v ≡ true) ⊎ ((j ≡ i) × (v ≡ t))
    none_live : (j v : ℕ) → asks u.live j v ≡ true → ⊥

  one_first : One (join s i t)
  unfolding i t s
  one_first = record {
    held = held_now s i t (rw start_rows (omega (arith, cross.centre.initiator)));
    or_given = held_cases s i t;
    none_live = λ j v e. let l = live_left s i t j v e in ⊎_elim l.other_row l.other_column (cross.only j v ((start_live st c.req c.pre j v).0 l.was));
  }

  one : One (matched st c.mode c.req c.pre).work
  unfolding matched i t s
  one = mode_favours One (λ u w v live h. absurd (h.none_live w v live)) st (served_call m st c done).in_order.offsets c.mode s
      ((start_live st c.req c.pre i t).1 cross.centre) one_first

  could : List Pair
  could = (i, cross.other_target) ∷ (cross.other_initiator, t) ∷ []

  could_join : ConflictFree (Live st c.req c.pre) could
  unfolding NoneTwice could i t
  could_join = record {
    live = λ j v e. ⊎_elim (is j v cross.in_row) (λ k. is j v cross.in_column (Memᴰ.eq_of_singleton k)) (Memᴰ.cases_cons e);
    no_initiator_twice = (λ e. cross.apart_in_column (sym (Memᴰ.eq_of_singleton e)), (Memᴰ.not-nil, tt));
    no_target_twice = (λ e. cross.apart_in_row (Memᴰ.eq_of_singleton e), (Memᴰ.not-nil, tt));
  }
    where
      is : (j v : ℕ) {q : Pair} → Live st c.req c.pre q.0 q.1 → ◌≡◌ {A = Pair} (j, v) q → Live st c.req c.pre j v
      is j v l e = subst (λ (x : Pair). Live st c.req c.pre x.0 x.1) (sym e) l

  did : Exactly (Joined (Given st c.pre) (tables.sets m st c)) ((i, t) ∷ [])
  unfolding NoneTwice i t s
  did = rw (served_call m st c done).sets-matched (record {
    only = λ j v e. subst (λ (x : Pair). Joined (Given st c.pre) (matched st c.mode c.req c.pre).work.held x.0 x.1) (sym (Memᴰ.eq_of_singleton e))
        (record { connected = one.held; not_given = cross.centre.given_none t });
    all = λ j v e. ⊎_elim (λ given. absurd (e.not_given (start_held st c.req c.pre j v given))) (λ (p, q). Memᴰ.head (ap₂ (λ (x y : ℕ). (x, y)) p q)) (one.or_given j v e.connected);
    once = (Memᴰ.not-nil, tt);
  })

  pub cross_on_tables : Compared (Live st c.req c.pre) (Given st c.pre) (tables.sets m st c) 2 1
  unfolding could i t
  cross_on_tables = record {
    best = could;
    is_best = record {
      conflict_free = could_join;
      no_more = λ pairs free. meets pairs (i ∷ []) (t ∷ []) free.no_initiator_twice free.no_target_twice
          (λ j v e. ⊎_elim (λ q. inl (Memᴰ.head q)) (λ q. inr (Memᴰ.head q)) (cross.only j v (free.live j v e)));
    };
    best_has = refl;
    joined = (i, t) ∷ [];
    exactly = did;
    joined-has = refl;
  }

-- the same cross
cross_alike : {Live Live' : ℕ → ℕ → Type 0} → ((i t : ℕ) → Live i t ↔ Live' i t) → (i t : ℕ) → Cross Live' i t → Cross Live i t
cross_alike lives i t h = record {
  centre = (lives i t).1 h.centre;
  other_target = h.other_target;
  in_row = (lives _ _).1 h.in_row;
  apart_in_row = h.apart_in_row;
  other_initiator = h.other_initiator;
  in_column = (lives _ _).1 h.in_column;
  apart_in_column = h.apart_in_column;
  only = λ j u l. h.only j u ((lives j u).0 l);
}

-- On frames: whatever was planned, in every mode and with any limit.
pub cross_on_frames : (m : ℕ) (st : State) (c : SlotCall) → number m st c ≡ 0 → Cross (frames.Live st c.block) st.initiator.0 st.target.0
    → Compared (frames.Live st c.block) (frames.Given st c.block) (sets m st c) 2 1
cross_on_frames m st c done cross = compared_on_frames m st c done 2 1
    (cross_on_tables m st (on_tables m st c) (same_number m st c done) (rows_there m st c done) (cross_alike (live_exactly (whole m st c done)) _ _ cross))
