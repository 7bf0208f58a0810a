-- Diagonal first: every live pair of the diagonal is joined.
use mathlib.Core.Path.{◌≡◌, refl, sym, ap, subst₂, ◌∙◌}
use mathlib.Core.Bool.{true, false, true≢false}
use mathlib.Core.List.{List}
use Prim.Native.Nat.{ℕ, suc, ◌≤◌, ◌<◌}
use native.Mathlib.Nat.{mod-lt}
use native.Mathlib.Decide.{ℕ_discrete}
use native.Mathlib.Omega.{arith}
use lib.ListN.{length}
use Rattle.laws.specs.Sets.{asks}
use Rattle.laws.proofs.Tests.{arms}
use Rattle.laws.proofs.Steps.{kept}
use Rattle.laws.proofs.Members.{asks-row}
use Rattle.ports.specs.declared.state.State.{State}
use Rattle.ports.specs.declared.state.Mode.TheVariants.{Diagonal}
use Rattle.choices.specs.Choice.{place}
use Rattle.choices.specs.Join.{join, join_live}
use Rattle.central.specs.Diagonal.{diagonal}
use Rattle.planned.specs.Planned.{start}
use Rattle.lcf.specs.Slot.{diagonal_first, serve_mode, matched}
use Rattle.choices.specs.declared.work.Work.{Work}
use Rattle.choices.proofs.Choices.{places_apart}
use Rattle.demands.specs.History.{Below}
use Rattle.demands.specs.Share.{Waits}
use Rattle.demands.proofs.Join.{held_still, held_now, held_length, left_live}
use Rattle.demands.proofs.Keeps.{central_keeps}
use Rattle.demands.proofs.Share.{waits_live}
use Rattle.demands.proofs.Stage.{start_rows, start_live}

-- the pair (i, t) is ((I + k) mod n, (J + k) mod n) for some k below n
pub record OnDiagonal (i t : ℕ) (st : State) : Type 0 where
  pub step : ℕ
  pub step_below : step < st.ports
  pub row : place st.ports st.initiator.0 step ≡ i
  pub column : place st.ports st.target.0 step ≡ t

pub on_below : (i t : ℕ) (st : State) → OnDiagonal i t st → (i < st.ports) × (t < st.ports)
on_below i t st on = (rw (← on.row) (mod-lt _ (omega (arith, on.step_below))), rw (← on.column) (mod-lt _ (omega (arith, on.step_below))))

module _ (st : State) (b : Below st) (i t : ℕ) (on : OnDiagonal i t st) (s : Work) (live : asks s.live i t ≡ true) (row : i < length s.held) where
  a : ℕ → ℕ
  a = place st.ports st.initiator.0

  c : ℕ → ℕ
  c = place st.ports st.target.0

  -- before its place the pair is live, and after it held
  record Joined (k : ℕ) (u : Work) : Type 0 where
    room : length u.held ≡ length s.held
    coming : k ≤ on.step → asks u.live i t ≡ true
    passed : on.step < k → asks u.held i t ≡ true

  next_place : (k : ℕ) (u : Work) → k < st.ports → Joined k u → Joined (suc k) (join_live u (a k) (c k))
  unfolding join_live a c
  next_place k u k< h = arms (Joined (suc k)) (asks u.live (a k) (c k)) _ _
      (λ e. record {
        room = held_length u (a k) (c k) ∙ h.room;
        coming = λ l. left_live u (a k) (c k) i t (record {
          was = h.coming (omega arith);
          other_row = λ q. places_apart st.ports st.initiator.0 k on.step b.initiator l on.step_below (on.row ∙ q);
          other_column = λ q. places_apart st.ports st.target.0 k on.step b.target l on.step_below (on.column ∙ q);
        });
        passed = λ l. now (ℕ_discrete on.step k) l;
      })
      (λ e. record { room = h.room; coming = λ l. h.coming (omega arith); passed = λ l. was e (ℕ_discrete on.step k) l })
    where
      now : Dec (on.step ≡ k) → on.step < suc k → asks (join u (a k) (c k)).held i t ≡ true
      now (yes q) l =
          let x : i ≡ a k = sym on.row ∙ ap a q in
          let y : t ≡ c k = sym on.column ∙ ap c q in
          rw (x, y) (held_now u (a k) (c k) (rw (← x, h.room) row))
      now (no q) l = held_still u (a k) (c k) i t (h.passed (omega arith))

      was : asks u.live (a k) (c k) ≡ false → Dec (on.step ≡ k) → on.step < suc k → asks u.held i t ≡ true
      was e (yes q) l = absurd (true≢false (sym (h.coming (omega arith)) ∙ subst₂ (λ (x y : ℕ). asks u.live x y ≡ false) (sym (ap a q) ∙ on.row) (sym (ap c q) ∙ on.column) e))
      was e (no q) l = h.passed (omega arith)

  diagonal-joined : asks (diagonal st s st.ports).held i t ≡ true
  unfolding a c
  diagonal-joined = (kept _ s Joined st.ports next_place (record { room = refl; coming = λ l. live; passed = λ l. absurd (omega arith) })).passed on.step_below

-- A waiting pair on the diagonal is connected.
pub diagonal-connects : (st : State) (req pre : List ℕ) (i t : ℕ) → Below st → OnDiagonal i t st → Waits st.ports req pre i t
    → asks (matched st Diagonal req pre).work.held i t ≡ true
unfolding matched serve_mode diagonal_first
diagonal-connects st req pre i t b on w =
    let (i<, t<) = on_below i t st on in
    let s = start st req pre in
    let live : asks s.live i t ≡ true = (start_live st req pre i t).1 (waits_live st req pre i t i< t< w) in
    let row : i < length s.held = rw start_rows (asks-row req i t w.asked) in
    central_keeps (λ u. asks u.held i t ≡ true) (λ u j k l. held_still u j k i t) st _ (diagonal-joined st b i t on s live row)
