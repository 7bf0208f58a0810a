-- Every mode joins pairs one after another, each live when it is joined. So what the joining of a live pair keeps, every mode keeps.
use mathlib.Core.Path.{◌≡◌, sym, ap, ◌∙◌}
use mathlib.Core.Bool.{true, false, ◌&&◌}
use mathlib.Core.List.{List}
use Prim.Native.Nat.{ℕ, suc, ◌%◌, ◌≤◌, ◌<◌}
use native.Mathlib.Nat.{add-zero, mod-eq_of_lt}
use native.Mathlib.Omega.{arith}
use lib.Dec.{eqb}
use lib.ListN.{get_or}
use borrow.Author.Tests.{eqb-true}
use Rattle.laws.specs.Sets.{has, asks}
use Rattle.laws.proofs.Tests.{both, arms}
use Rattle.laws.proofs.Steps.{kept, kept_from_first}
use Rattle.laws.proofs.Members.{gathered-has}
use Rattle.ports.specs.declared.state.State.{State}
use Rattle.ports.specs.declared.state.Mode.{Mode}
use Rattle.ports.specs.declared.state.Mode.TheVariants.{Central, Distributed, Diagonal}
use Rattle.choices.specs.Choice.{place}
use Rattle.choices.specs.Join.{join, join_live}
use Rattle.planned.specs.Planned.{planner, give, planned}
use Rattle.central.specs.Central.{winner, serve, central}
use Rattle.central.specs.Diagonal.{diagonal}
use Rattle.distributed.specs.Distributed.{grants, offers, accepted, answer, round, one_more, rounds, distributed}
use Rattle.choices.specs.Live.{any_live}
use Rattle.lcf.specs.Slot.{diagonal_first, serve_mode}
use Rattle.choices.specs.declared.work.Work.{Work}
use Rattle.choices.specs.declared.work.Run.{Run}
use Rattle.demands.specs.History.{Below}
use Rattle.demands.proofs.Join.{Left, left_live}

-- a rotation begins at its start
pub first_place : (n a : ℕ) → a < n → place n a 0 ≡ a
first_place n a h = ap (λ x. x % n) (add-zero a) ∙ mod-eq_of_lt h

-- an offer: initiator i asks for t, and t grants it
pub offered : (st : State) (live grant : List ℕ) (i t : ℕ) → has (offers st live grant i) t ≡ true → (asks live i t ≡ true) × (get_or grant t 0 ≡ i)
unfolding offers
offered st live grant i t e =
    let (x, y) = both (asks live i t) _ (gathered-has (λ t. asks live i t && eqb (get_or grant t 0) i) st.ports t e).1 in
    (x, eqb-true (get_or grant t 0) i y)

module _ (P : Work → Type 0) (keeps : (s : Work) (i t : ℕ) → asks s.live i t ≡ true → P s → P (join s i t)) (st : State) where
  pub live_keeps : (s : Work) (i t : ℕ) → P s → P (join_live s i t)
  unfolding join_live
  live_keeps s i t p = arms P (asks s.live i t) _ _ (λ e. keeps s i t e p) (λ e. p)

  pub serve_keeps : (k : ℕ) (s : Work) → P s → P (serve st k s)
  unfolding serve
  serve_keeps k s = live_keeps s _ _

  pub central_keeps : (s : Work) → P s → P (central st s st.ports)
  central_keeps s = kept _ s (λ k. P) st.ports (λ k u h. serve_keeps k u)

  pub diagonal_keeps : (s : Work) → P s → P (diagonal st s st.ports)
  diagonal_keeps s = kept _ s (λ k. P) st.ports (λ k u h. live_keeps u _ _)

  -- the round that began with these live requests and these grants
  module _ (live asked grant : List ℕ) where
    -- after k initiators have answered: what the others are offered is still live
    record Answered (k : ℕ) (s : Work) : Type 0 where
      good : P s
      still : (i t : ℕ) → k ≤ i → has (offers st live grant i) t ≡ true → asks s.live i t ≡ true

    answer_keeps : (k : ℕ) (s : Work) → Answered k s → Answered (suc k) (answer st live asked grant k s)
    unfolding answer
    answer_keeps k s h =
        arms (Answered (suc k)) (has offer t) _ _
        (λ e. record { good = keeps s k t (h.still k t (omega arith) e) h.good; still = λ i u l f. left_live s k t i u (others e i u l f) })
        (λ e. record { good = h.good; still = λ i u l. h.still i u (omega arith) })
      where
        offer : ℕ
        offer = offers st live grant k

        t : ℕ
        t = accepted st asked offer k

        -- a target grants one initiator
        others : has offer t ≡ true → (i u : ℕ) → suc k ≤ i → has (offers st live grant i) u ≡ true → Left s k t i u
        others e i u l f = record {
          was = h.still i u (omega arith) f;
          other_row = λ q. omega arith;
          other_column = λ q.
              let same : i ≡ k = sym (offered st live grant i u f).1 ∙ ap (λ x. get_or grant x 0) q ∙ (offered st live grant k t e).1 in
              omega arith;
        }

  pub round_keeps : (s : Work) → P s → P (round st s)
  unfolding round
  round_keeps s p = (kept _ _ (Answered s.live _ (grants st s.live)) st.ports (λ k u h. answer_keeps s.live _ _ k u)
      (record { good = p; still = λ i t l e. (offered st s.live _ i t e).0 })).good

  rounds_keep : (limit : ℕ) (r : Run) → P r.work → P (rounds st r limit).work
  unfolding one_more
  rounds_keep limit r p = kept _ r (λ k (u : Run). P u.work) limit
      (λ k u h q. arms (λ (v : Run). P v.work) (any_live u.work.live st.ports) _ _ (λ e. round_keeps u.work q) (λ e. q)) p

  pub mode_keeps : (mode : Mode) (s : Work) → P s → P (serve_mode st mode s).work
  unfolding serve_mode distributed diagonal_first
  mode_keeps Central s p = central_keeps s p
  mode_keeps (Distributed limit) s p = rounds_keep limit _ (live_keeps s _ _ p)
  mode_keeps Diagonal s p = central_keeps _ (diagonal_keeps s p)

  -- every mode begins with the favoured pair (I, J), if its request is live
  pub mode_favours : Below st → (mode : Mode) (s : Work) → asks s.live st.initiator.0 st.target.0 ≡ true
      → P (join s st.initiator.0 st.target.0) → P (serve_mode st mode s).work
  unfolding serve_mode distributed diagonal_first serve winner join_live
  mode_favours b Central s e p = kept_from_first (serve st) s P st.ports (λ k u. serve_keeps k u)
      (rw (first_place st.ports st.target.0 b.target, first_place st.ports st.initiator.0 b.initiator, e, e) p) (omega (arith, b.target))
  mode_favours b (Distributed limit) s e p = rounds_keep limit _ (rw e p)
  mode_favours b Diagonal s e p = central_keeps _ (kept_from_first _ s P st.ports (λ k u. live_keeps u _ _)
      (rw (first_place st.ports st.initiator.0 b.initiator, first_place st.ports st.target.0 b.target, e) p) (omega (arith, b.target)))

-- What the giving of a planned target keeps, the planned stage keeps: P t holds when the targets below t have been given.
module _ (P : ℕ → Work → Type 0) (st : State) (pre : List ℕ) where
  pub planned_keeps : (s : Work)
      → ((t : ℕ) (u : Work) → t < st.ports → asks pre (planner st pre t) t ≡ true → P t u → P (suc t) (join u (planner st pre t) t))
      → ((t : ℕ) (u : Work) → asks pre (planner st pre t) t ≡ false → P t u → P (suc t) u) → P 0 s → P st.ports (planned st pre s)
  unfolding planned give
  planned_keeps s gives skips p = kept _ s P st.ports
      (λ t u h q. arms (P (suc t)) (asks pre (planner st pre t) t) _ _ (λ e. gives t u h e q) (λ e. skips t u e q)) p
