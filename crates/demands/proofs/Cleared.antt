-- Rule 5 clears target after target: the central form leaves no live request, whatever was joined before it.
use mathlib.Core.Path.{◌≡◌, refl, sym, ◌∙◌}
use mathlib.Core.Bool.{Bool, true, false, true≢false}
use Prim.Native.Nat.{ℕ, suc, ◌<◌}
use native.Mathlib.Nat.{mod-lt}
use native.Mathlib.Omega.{arith}
use Rattle.laws.specs.Sets.{asks}
use Rattle.laws.proofs.Tests.{arms}
use Rattle.laws.proofs.Steps.{upto, kept}
use Rattle.ports.specs.declared.state.State.{State}
use Rattle.choices.specs.Choice.{place}
use Rattle.choices.specs.Join.{join_live}
use Rattle.central.specs.Central.{winner, serve, central}
use Rattle.choices.specs.declared.work.Work.{Work}
use Rattle.demands.specs.Rounds.{SomeLive}
use Rattle.demands.specs.Progress.{Within}
use Rattle.demands.proofs.Choice.{placed}
use Rattle.demands.proofs.Join.{live_left}
use Rattle.demands.proofs.Keeps.{serve_keeps}
use Rattle.demands.proofs.Rules.{winner-favoured, winner-chosen}
use Rattle.demands.proofs.Progress.{join-within}

module _ (st : State) where
  -- the k-th target from J
  abbrev served : ℕ → ℕ
  served = place st.ports st.target.0

  -- nobody asks for target t
  abbrev Cleared : ℕ → Work → Type 0
  Cleared t s = (i : ℕ) → asks s.live i t ≡ true → ⊥

  -- who asks for the target is passed over only for another who does
  serve-clears : (k : ℕ) (s : Work) → Within st.ports s → Cleared (served k) (serve st k s)
  unfolding serve join_live
  serve-clears k s h i = arms (λ (u : Work). asks u.live i (served k) ≡ true → ⊥) (asks s.live w (served k)) _ _
      (λ e x. (live_left s w (served k) i (served k) x).other_column refl)
      (λ e x. true≢false (sym (wins (asks s.live a (served k)) refl x) ∙ e))
    where
      a : ℕ
      a = place st.ports st.initiator.0 k

      w : ℕ
      w = winner s.live st.ports (served k) a

      wins : (b : Bool) → asks s.live a (served k) ≡ b → asks s.live i (served k) ≡ true → asks s.live w (served k) ≡ true
      wins true e x = rw (winner-favoured s.live st.ports (served k) a e) e
      wins false e x = let i< = (h.inside i (served k) x).0 in (winner-chosen s.live st.ports (served k) a i (mod-lt _ (omega arith)) i< x e).asks_too

  pub central_leaves_none : (s : Work) → Within st.ports s → st.target.0 < st.ports → SomeLive st.ports (central st s st.ports).live → ⊥
  central_leaves_none s h j< some =
      let (inside, cleared) = all in
      let (k, k<, at) = placed st.ports st.target.0 some.target j< (inside.inside _ _ some.asked).1 in
      cleared k k< some.initiator (rw at some.asked)
    where
      Passed : ℕ → Work → Type 0
      Passed k u = Within st.ports u × ((j : ℕ) → j < k → Cleared (served j) u)

      next : (k : ℕ) (u : Work) → k < st.ports → Passed k u → Passed (suc k) (serve st k u)
      next k u k< (inside, before) = (
        serve_keeps (Within st.ports) (join-within st) st k u inside,
        upto (λ j. Cleared (served j) (serve st k u)) k
            (λ j j<. serve_keeps (Cleared (served j)) (λ v w c live none i x. none i (live_left v w c i (served j) x).was) st k u (before j j<)) (serve-clears k u inside),
      )

      all : Passed st.ports (central st s st.ports)
      all = kept _ s Passed st.ports next (h, λ j l. absurd (omega arith))
