-- The number of rounds of a slot is the number of rounds that began with a live request and were run.
use mathlib.Core.Path.{◌≡◌, refl, sym, ap, subst, ◌∙◌}
use mathlib.Core.Logic.{inl, inr, ⊎_elim}
use mathlib.Core.Bool.{Bool, true, false, cond}
use mathlib.Core.List.{List}
use Prim.Native.Nat.{ℕ, zero, suc, ◌+◌, ◌≤◌, ◌<◌}
use native.Mathlib.Numerals.{add-one}
use native.Mathlib.Decide.{dec_lt}
use native.Mathlib.Omega.{arith}
use lib.ListN.{length}
use Rattle.laws.specs.Steps.{steps}
use Rattle.laws.proofs.Steps.{upto}
use Rattle.ports.specs.declared.state.State.{State}
use Rattle.ports.specs.declared.state.Mode.{Mode}
use Rattle.ports.specs.declared.state.Mode.TheVariants.{Central, Distributed, Diagonal}
use Rattle.ports.specs.Answer.{Stepped}
use Rattle.choices.specs.Live.{any_live}
use Rattle.distributed.specs.Distributed.{round, one_more, distributed}
use Rattle.planned.specs.Planned.{start}
use Rattle.lcf.specs.Slot.{serve_mode, matched}
use Rattle.choices.specs.declared.work.Work.{Work}
use Rattle.choices.specs.declared.work.Run.{Run}
use Rattle.demands.specs.Call as tables
use Rattle.demands.specs.SlotCall.{SlotCall, called, number, on_tables}
use Rattle.demands.specs.Rounds.{SomeLive, after_rounds, RoundsRun, begun, RoundsOf, HasRounds}
use Rattle.demands.specs.Progress.{Within, RoundsJoin}
use Rattle.demands.proofs.Calls.{served_call}
use Rattle.demands.proofs.Keeps.{live_keeps}
use Rattle.demands.proofs.Progress.{some_live, none_live, join-within, start-within, rounds-join, none_left}
use Rattle.demands.proofs.SlotCalls.{request_rows, whole, as_on_tables, same_number}

-- Only one number of rounds is that.
pub rounds-once : {st : State} {limit : ℕ} {s : Work} {r q : ℕ} → RoundsRun st limit s r → RoundsRun st limit s q → r ≡ q
rounds-once {r = r} {q} a b = go (dec_lt r q) (dec_lt q r)
  where
    go : Dec (r < q) → Dec (q < r) → r ≡ q
    go (yes l) d = ⊎_elim (λ e. omega (arith, b.allowed)) (λ none. absurd (none (b.each_live r l))) a.stopped
    go (no h) (yes l) = ⊎_elim (λ e. omega (arith, a.allowed)) (λ none. absurd (none (a.each_live q l))) b.stopped
    go (no h) (no l) = omega arith

-- what a run has counted, and what it has made of the work s
record Counted (st : State) (limit : ℕ) (s : Work) (run : Run) : Type 0 where
  counts : RoundsRun st limit s run.rounds
  made : run.work ≡ after_rounds st s run.rounds

module _ (st : State) (s : Work) where
  one_more_lem : (k : ℕ) (run : Run) → Counted st k s run → Counted st (suc k) s (one_more st run)
  unfolding one_more steps
  one_more_lem k run h = go (any_live run.work.live st.ports) refl
    where
      r : ℕ
      r = run.rounds

      go : (any : Bool) → any_live run.work.live st.ports ≡ any → Counted st (suc k) s (cond any (record { work = round st run.work; rounds = r + 1 }) run)
      go true e =
          let some : SomeLive st.ports (after_rounds st s r).live = subst (λ (w : Work). SomeLive st.ports w.live) h.made (some_live _ _ e) in
          let all : r ≡ k = ⊎_elim (λ q. q) (λ none. absurd (none some)) h.counts.stopped in
          rw (add-one r) (record {
            counts = record { each_live = upto _ r h.counts.each_live some; allowed = omega arith; stopped = inl (ap suc all) };
            made = ap (round st) h.made;
          })
      go false e =
          let none : SomeLive st.ports (after_rounds st s r).live → ⊥ = subst (λ (w : Work). SomeLive st.ports w.live → ⊥) h.made (none_live _ _ e) in
          record { counts = record { each_live = h.counts.each_live; allowed = omega (arith, h.counts.allowed); stopped = inr none }; made = h.made }

distributed-counted : (st : State) (s : Work) (limit : ℕ) → Counted st limit (begun st s) (distributed st limit s)
unfolding distributed steps
distributed-counted st s zero = record { counts = record { each_live = λ k l. absurd (omega arith); allowed = omega arith; stopped = inl refl }; made = refl }
distributed-counted st s (suc k) = one_more_lem st _ k _ (distributed-counted st s k)

matched-rounds : (st : State) (mode : Mode) (req pre : List ℕ) → RoundsOf st mode (start st req pre) (matched st mode req pre).rounds (matched st mode req pre).work.held
unfolding matched serve_mode
matched-rounds st Central req pre = refl
matched-rounds st Diagonal req pre = refl
matched-rounds st (Distributed limit) req pre =
    let c = distributed-counted st (start st req pre) limit in
    (c.counts, ap (λ (w : Work). w.held) c.made)

-- each of them joins a pair
module _ (st : State) (req pre : List ℕ) (rows : st.ports ≤ length req) where
  begun-within : Within st.ports (begun st (start st req pre))
  begun-within = live_keeps (Within st.ports) (join-within st) st (start st req pre) _ _ (start-within st req pre rows)

  no_rounds : RoundsJoin st (begun st (start st req pre)) 0
  no_rounds = rounds-join st _ begun-within 0 (λ k l. absurd (omega arith))

  matched_joins : (mode : Mode) → RoundsJoin st (begun st (start st req pre)) (matched st mode req pre).rounds
  unfolding matched serve_mode
  matched_joins Central = no_rounds
  matched_joins Diagonal = no_rounds
  matched_joins (Distributed limit) = rounds-join st _ begun-within _ (distributed-counted st (start st req pre) limit).counts.each_live

  -- A limit of n or more leaves no live request.
  pub none_live_left : (limit : ℕ) → st.ports ≤ limit → SomeLive st.ports (matched st (Distributed limit) req pre).work.live → ⊥
  unfolding matched serve_mode
  none_live_left limit enough some =
      let c = distributed-counted st (start st req pre) limit in
      none_left st _ begun-within limit _ enough c.counts (subst (λ (w : Work). SomeLive st.ports w.live) c.made some)

-- On tables, and on frames.
module _ (m : ℕ) (st : State) where
  pub rounds-on_tables : (c : tables.Call) → tables.number m st c ≡ 0
      → RoundsOf st c.mode (start st c.req c.pre) (tables.called m st c).answer.rounds (tables.sets m st c)
  rounds-on_tables c done = let r = served_call m st c done in rw (r.rounds_run, r.sets-matched) (matched-rounds st c.mode c.req c.pre)

  module _ (c : SlotCall) (done : number m st c ≡ 0) where
    pub rounds_run : HasRounds m st c (called m st c).answer.rounds
    rounds_run =
        let t = on_tables m st c in
        subst (λ (r : Stepped). RoundsOf st t.mode (start st t.req t.pre) r.answer.rounds r.answer.sets) (sym (as_on_tables m st c done))
        (rounds-on_tables t (same_number m st c done))

    -- Each round of a served call joins a pair, so that the live requests fall, and there are no more rounds than ports.
    pub each_joins : RoundsJoin st (begun st (start st (on_tables m st c).req (on_tables m st c).pre)) (called m st c).answer.rounds
    each_joins =
        let t = on_tables m st c in
        let same : (called m st c).answer.rounds ≡ (matched st t.mode t.req t.pre).rounds = ap (λ (r : Stepped). r.answer.rounds) (as_on_tables m st c done) ∙ (served_call m st t (same_number m st c done)).rounds_run in
        rw same (matched_joins st t.req t.pre (rw (request_rows m st c) (whole m st c done).ports_at_most) t.mode)
