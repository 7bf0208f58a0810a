-- A round with a live request joins at least one pair, so fewer initiators ask after it, and there are no more rounds than ports.
use mathlib.Core.Path.{◌≡◌, refl, sym, ap, subst, ◌∙◌}
use mathlib.Core.Logic.{⊎_elim}
use mathlib.Core.Bool.{true, false, not, true≢false}
use mathlib.Core.List.{List}
use Prim.Native.Nat.{ℕ, zero, suc, ◌+◌, ◌≤◌, ◌<◌}
use native.Mathlib.Decide.{ℕ_discrete}
use native.Mathlib.Omega.{arith}
use lib.Count.{count_trailing_zeros}
use lib.Dec.{eqb}
use lib.ListN.{length, get_or, length-map, length-set}
use borrow.Author.Tests.{eq-eqb, ne_eqb, eqb-false, not-true}
use Rattle.laws.specs.Steps.{steps}
use Rattle.laws.specs.Sets.{has, asks, tally}
use Rattle.laws.proofs.Tests.{both, every, arms, refuted}
use Rattle.laws.proofs.Rows.{length_tabled}
use Rattle.laws.proofs.Members.{has_none}
use Rattle.laws.proofs.Steps.{kept, some_true, true_some}
use Rattle.laws.proofs.Tallies.{tally_most, tally_none, tally_fewer}
use Rattle.laws.proofs.Words.{first_digit}
use Rattle.ports.specs.Tables.{within}
use Rattle.ports.specs.declared.state.State.{State}
use Rattle.choices.specs.Join.{join}
use Rattle.planned.specs.Planned.{start}
use Rattle.distributed.specs.Distributed.{askers, grants, offers, accepted, answer, round}
use Rattle.choices.specs.Live.{any_live}
use Rattle.choices.specs.declared.work.Work.{Work}
use Rattle.demands.specs.Rounds.{SomeLive, after_rounds, RoundsRun}
use Rattle.demands.specs.Progress.{Within, Joins, Falls, RoundsJoin}
use Rattle.demands.specs.Choice.{target_start, FewestRequests, FewestAskers}
use Rattle.demands.proofs.Join.{live_left, held_still, held_now, held_length}
use Rattle.demands.proofs.Keeps.{round_keeps, planned_keeps}
use Rattle.demands.proofs.Small.{below_power}
use Rattle.demands.proofs.Rules.{grants-chosen, accepted-chosen, in_offers}
use Rattle.demands.proofs.Stage.{start_live, start_rows}

live_length : (s : Work) (w c : ℕ) → length (join s w c).live ≡ length s.live
unfolding join
live_length s w c = simp (length-map, length-set)

-- a row that is not empty has a target
some-target : (row : ℕ) → (row ≡ 0 → ⊥) → has row (count_trailing_zeros row row) ≡ true
some-target row some = eq-eqb _ 1 (first_digit row row (λ e. omega arith) (below_power row)).0

-- whether an initiator with these requests asks for something
asks-some : (row t : ℕ) → has row t ≡ true → not (eqb row 0) ≡ true
asks-some row t e = ap not (ne_eqb row 0 (λ z. true≢false (sym e ∙ ap (λ r. has r t) z ∙ has_none t)))

asks_none : (row : ℕ) → ((t : ℕ) → has row t ≡ false) → not (eqb row 0) ≡ false
asks_none row none = refuted _ (λ e. true≢false (sym (some-target row (eqb-false row 0 (not-true _ e))) ∙ none (count_trailing_zeros row row)))

pub some_live : (live : List ℕ) (n : ℕ) → any_live live n ≡ true → SomeLive n live
some_live live n any =
    let (i, i<, some) = some_true (λ i. not (eqb (get_or live i 0) 0)) n any in
    let row = get_or live i 0 in
    record { initiator = i; target = count_trailing_zeros row row; below = i<; asked = some-target row (eqb-false row 0 (not-true _ some)) }

pub none_live : (live : List ℕ) (n : ℕ) → any_live live n ≡ false → SomeLive n live → ⊥
none_live live n none l =
    true≢false (sym (true_some (λ i. not (eqb (get_or live i 0) 0)) n l.initiator l.below (asks-some (get_or live l.initiator 0) l.target l.asked)) ∙ none)

-- how many of the first n initiators do
abbrev asking : List ℕ → ℕ → ℕ
asking live = tally (λ i. not (eqb (get_or live i 0) 0))

module _ (st : State) where
  pub join-within : (s : Work) (w c : ℕ) → asks s.live w c ≡ true → Within st.ports s → Within st.ports (join s w c)
  join-within s w c live h = record {
    rows = rw (live_length s w c) h.rows;
    room = rw (held_length s w c) h.room;
    inside = λ i t e. h.inside i t (live_left s w c i t e).was;
  }

  start_length : (req pre : List ℕ) → length (start st req pre).live ≡ length req
  unfolding start within
  start_length req pre = planned_keeps (λ k u. length u.live ≡ length req) st _ _ (λ t u h e p. live_length u _ t ∙ p) (λ t u e p. p) (length_tabled _ _ _)

  pub start-within : (req pre : List ℕ) → st.ports ≤ length req → Within st.ports (start st req pre)
  start-within req pre h = record {
    rows = rw (start_length req pre) h;
    room = rw (start_rows st req pre) h;
    inside = λ i t e. let l = (start_live st req pre i t).0 e in (l.initiator, l.target);
  }

  -- A round with a live request joins at least one pair.
  pub round_joins : (s : Work) → Within st.ports s → SomeLive st.ports s.live → Joins s (round st s)
  unfolding round answer
  round_joins s h some = record {
    initiator = w;
    target = takes w;
    asked = (both (asks live w (takes w)) _ accepts.asks_too).0;
    held = took.0;
    over = λ u. refuted _ (took.1 u);
  }
    where
      live : List ℕ
      live = s.live

      t : ℕ
      t = some.target

      t< : t < st.ports
      t< = (h.inside _ t some.asked).1

      -- whom target t grants
      w : ℕ
      w = get_or (grants st live) t 0

      chosen : FewestRequests live st.ports t (target_start st t) w
      chosen = grants-chosen st live h.rows t _ t< some.below some.asked

      -- and what an initiator accepts
      takes : ℕ → ℕ
      takes k = accepted st (askers st live) (offers st live (grants st live) k) k

      accepts : FewestAskers st live w (takes w)
      accepts = accepted-chosen st live h.rows w t t< (every chosen.asks_too (eq-eqb w w refl))

      Took : Work → Type 0
      Took u = (asks u.held w (takes w) ≡ true) × ((x : ℕ) → asks u.live w x ≡ true → ⊥)

      Known : ℕ → Work → Type 0
      Known k u = (st.ports ≤ length u.held) × (w < k → Took u)

      next : (k : ℕ) (u : Work) → k < st.ports → Known k u → Known (suc k) (answer st live (askers st live) (grants st live) k u)
      next k u k< (room, before) = arms (Known (suc k)) (has (offers st live (grants st live) k) (takes k)) _ _
          (λ e. (rw (held_length u k (takes k)) room, λ l. joins (ℕ_discrete w k) l))
          (λ e. (room, λ l. skips e (ℕ_discrete w k) l))
        where
          joins : Dec (w ≡ k) → w < suc k → Took (join u k (takes k))
          joins (yes q) l = subst (λ (j : ℕ). Took (join u j (takes j))) q (held_now u w (takes w) (omega arith), λ x e. (live_left u w (takes w) w x e).other_row refl)
          joins (no q) l = let b = before (omega arith) in (held_still u k (takes k) w (takes w) b.0, λ x e. b.1 x (live_left u k (takes k) w x e).was)

          skips : has (offers st live (grants st live) k) (takes k) ≡ false → Dec (w ≡ k) → w < suc k → Took u
          skips e (yes q) l = absurd (true≢false (sym (in_offers st live h.rows w _ accepts.below ∙ accepts.asks_too) ∙ rw q e))
          skips e (no q) l = before (omega arith)

      took : Took (round st s)
      took = (kept _ _ Known st.ports next (h.room, λ l. absurd (omega arith))).1 chosen.below

  -- So the live requests fall,
  pub round_falls : (s : Work) → Within st.ports s → SomeLive st.ports s.live → Falls s.live (round st s).live
  round_falls s h some =
      let j = round_joins s h some in
      record {
        none_new = round_keeps (λ u. (i t : ℕ) → asks u.live i t ≡ true → asks s.live i t ≡ true) (λ u w c l p i t e. p i t (live_left u w c i t e).was) st s (λ i t e. e);
        initiator = j.initiator;
        target = j.target;
        was = j.asked;
        gone = j.over j.target;
      }

  -- and fewer initiators ask.
  round_fewer : (s : Work) → Within st.ports s → SomeLive st.ports s.live → asking (round st s).live st.ports < asking s.live st.ports
  round_fewer s h some =
      let j = round_joins s h some in
      tally_fewer (λ i. not (eqb (get_or s.live i 0) 0)) (λ i. not (eqb (get_or (round st s).live i 0) 0)) still st.ports j.initiator
      (h.inside j.initiator j.target j.asked).0 (asks-some (get_or s.live j.initiator 0) j.target j.asked) (asks_none (get_or (round st s).live j.initiator 0) j.over)
    where
      still : (k : ℕ) → not (eqb (get_or (round st s).live k 0) 0) ≡ true → not (eqb (get_or s.live k 0) 0) ≡ true
      still k e =
          let row = get_or (round st s).live k 0 in
          asks-some (get_or s.live k 0) (count_trailing_zeros row row) ((round_falls s h some).none_new k (count_trailing_zeros row row) (some-target row (eqb-false row 0 (not-true _ e))))

  -- r rounds, each of which begins with a live request
  module _ (s : Work) (h : Within st.ports s) where
    after-within : (k : ℕ) → Within st.ports (after_rounds st s k)
    after-within k = kept _ s (λ k. Within st.ports) k (λ k u l. round_keeps (Within st.ports) join-within st u) h

    fewer_ask : (r : ℕ) → ((k : ℕ) → k < r → SomeLive st.ports (after_rounds st s k).live) → asking (after_rounds st s r).live st.ports + r ≤ st.ports
    unfolding steps
    fewer_ask zero each = omega (arith, tally_most (λ i. not (eqb (get_or s.live i 0) 0)) st.ports)
    fewer_ask (suc r) each =
        omega (arith, fewer_ask r (λ k l. each k (omega arith)), round_fewer (after_rounds st s r) (after-within r) (each r (omega arith)))

    pub rounds-join : (r : ℕ) → ((k : ℕ) → k < r → SomeLive st.ports (after_rounds st s k).live) → RoundsJoin st s r
    unfolding steps
    rounds-join r each = record {
      joins = λ k l. round_joins (after_rounds st s k) (after-within k) (each k l);
      falls = λ k l. round_falls (after_rounds st s k) (after-within k) (each k l);
      ports_at_most = omega (arith, fewer_ask r each);
    }

    -- n of them leave no live request
    pub none_left : (limit r : ℕ) → st.ports ≤ limit → RoundsRun st limit s r → SomeLive st.ports (after_rounds st s r).live → ⊥
    none_left limit r enough run some = ⊎_elim
        (λ all. true≢false (sym (asks-some (get_or (after_rounds st s r).live some.initiator 0) some.target some.asked)
        ∙ tally_none (λ i. not (eqb (get_or (after_rounds st s r).live i 0) 0)) st.ports (nobody all) some.initiator some.below))
        (λ none. none some) run.stopped
      where
        nobody : r ≡ limit → asking (after_rounds st s r).live st.ports ≡ 0
        nobody all = omega (arith, fewer_ask r run.each_live)
