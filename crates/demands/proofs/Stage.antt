-- Rules 3 and 4: what is held and what is live after the planned stage.
use mathlib.Core.Path.{◌≡◌, refl, sym, ap, ◌∙◌}
use mathlib.Core.Logic.{⊎_elim, ◌≢◌, ◌↔◌}
use mathlib.Core.Bool.{true, false, true≢false}
use mathlib.Core.List.{List}
use Prim.Native.Nat.{ℕ, suc, ◌%◌, ◌^◌, ◌<◌}
use native.Mathlib.Omega.{arith}
use lib.ListN.{length, get_or, replicate, length-replicate}
use Rattle.laws.specs.Sets.{has, asks}
use Rattle.laws.proofs.Tests.{same}
use Rattle.laws.proofs.Steps.{upto}
use Rattle.laws.proofs.Members.{has_below, below_has, asks-row, asks-empty, tabled-asks}
use Rattle.laws.proofs.Rows.{row-tabled}
use Rattle.ports.specs.Tables.{within}
use Rattle.ports.specs.declared.state.State.{State}
use Rattle.choices.specs.Join.{join}
use Rattle.planned.specs.Planned.{planner, planned, start}
use Rattle.choices.specs.declared.work.Work.{Work}
use Rattle.demands.specs.Origin.{Given, Live}
use Rattle.demands.proofs.Choice.{chosen-once, chosen_same}
use Rattle.demands.proofs.Rules.{planner-chosen}
use Rattle.demands.proofs.Join.{live_left, left_live, held_cases, held_still, held_now, held_length}
use Rattle.demands.proofs.Keeps.{planned_keeps}

-- ---- rows and bits at or above n are ignored

pub within-asks : (n : ℕ) (rows : List ℕ) (i t : ℕ) → asks (within n rows) i t ≡ true → (i < n) × (t < n) × (asks rows i t ≡ true)
unfolding within
within-asks n rows i t e =
    let (i<, h) = tabled-asks (length rows) (λ i. get_or rows i 0 % 2 ^ n) n i t e in
    let (t<, a) = below_has (get_or rows i 0) n t h in
    (i<, t<, a)

pub asks-within : (n : ℕ) (rows : List ℕ) (i t : ℕ) → i < n → t < n → asks rows i t ≡ true → asks (within n rows) i t ≡ true
unfolding within
asks-within n rows i t i< t< a = ap (λ s. has s t) (row-tabled (length rows) (λ i. get_or rows i 0 % 2 ^ n) n i i< (asks-row rows i t a))
    ∙ has_below (get_or rows i 0) n t t< ∙ a

-- ---- the stage

module _ (st : State) (pre : List ℕ) where
  -- target u has a claimant, and goes to it
  abbrev Goes : ℕ → Type 0
  Goes u = asks pre (planner st pre u) u ≡ true

  -- if it goes, then not to i, and it is not t
  abbrev Avoids : ℕ → ℕ → ℕ → Type 0
  Avoids i t u = Goes u → (planner st pre u ≢ i) × (u ≢ t)

  -- if it goes, then the table has it, if it has the row
  abbrev Held : Work → List ℕ → ℕ → Type 0
  Held first held u = Goes u → planner st pre u < length first.held → asks held (planner st pre u) u ≡ true

  -- when the targets below k have been given
  record Staged (first : Work) (k : ℕ) (s : Work) : Type 0 where
    held_goes : (i t : ℕ) → asks s.held i t ≡ true → (t < k) × Goes t × (planner st pre t ≡ i)
    goes_held : (u : ℕ) → u < k → Held first s.held u
    live_open : (i t : ℕ) → asks s.live i t ≡ true → (asks first.live i t ≡ true) × ((u : ℕ) → u < k → Avoids i t u)
    open_live : (i t : ℕ) → asks first.live i t ≡ true → ((u : ℕ) → u < k → Avoids i t u) → asks s.live i t ≡ true
    rows : length s.held ≡ length first.held

  gives : (first : Work) (k : ℕ) (s : Work) → k < st.ports → Goes k → Staged first k s → Staged first (suc k) (join s (planner st pre k) k)
  gives first k s k< goes h = record {
    held_goes = λ i t e. ⊎_elim
        (λ old. let (a, b, c) = h.held_goes i t old in (omega arith, b, c))
        (λ new. (omega arith, rw new.1 goes, rw new.1 (sym new.0)))
        (held_cases s w k i t e);
    goes_held = upto (Held first (join s w k).held) k
        (λ u u< g r. held_still s w k _ u (h.goes_held u u< g r)) (λ g r. held_now s w k (rw h.rows r));
    live_open = λ i t e.
        let l = live_left s w k i t e in
        let (a, b) = h.live_open i t l.was in
        (a, upto (Avoids i t) k b (λ g. (λ q. l.other_row (sym q), λ q. l.other_column (sym q))));
    open_live = λ i t a b. left_live s w k i t (record {
      was = h.open_live i t a (λ u u<. b u (omega arith));
      other_row = λ q. (b k (omega arith) goes).0 (sym q);
      other_column = λ q. (b k (omega arith) goes).1 (sym q);
    });
    rows = held_length s w k ∙ h.rows;
  }
    where
      w : ℕ
      w = planner st pre k

  skips : (first : Work) (k : ℕ) (s : Work) → asks pre (planner st pre k) k ≡ false → Staged first k s → Staged first (suc k) s
  skips first k s e h = record {
    held_goes = λ i t x. let (a, b, c) = h.held_goes i t x in (omega arith, b, c);
    goes_held = upto (Held first s.held) k h.goes_held (λ g. absurd (true≢false (sym g ∙ e)));
    live_open = λ i t x. let (a, b) = h.live_open i t x in (a, upto (Avoids i t) k b (λ g. absurd (true≢false (sym g ∙ e))));
    open_live = λ i t a b. h.open_live i t a (λ u u<. b u (omega arith));
    rows = h.rows;
  }

  staged : (first : Work) → ((i t : ℕ) → asks first.held i t ≡ true → ⊥) → Staged first st.ports (planned st pre first)
  staged first none = planned_keeps (Staged first) st pre first (gives first) (skips first) (record {
    held_goes = λ i t e. absurd (none i t e);
    goes_held = λ t h. absurd (omega arith);
    live_open = λ i t e. (e, λ u h. absurd (omega arith));
    open_live = λ i t e b. e;
    rows = refl;
  })

module _ (st : State) (req pre : List ℕ) where
  stage : Staged st (within st.ports pre) (record { live = within st.ports req; held = replicate (length req) 0 }) st.ports (start st req pre)
  unfolding start
  stage = staged st _ _ (λ i t e. true≢false (sym e ∙ asks-empty (length req) i t))

  -- a claimant, with or without what is ignored
  same_claimants : (t : ℕ) → t < st.ports → (x : ℕ) → x < st.ports → asks (within st.ports pre) x t ≡ asks pre x t
  same_claimants t t< x x< = same _ _ (λ e. (within-asks st.ports pre x t e).2) (asks-within st.ports pre x t x< t<)

  goes_given : (t : ℕ) → Goes st (within st.ports pre) t → Given st pre (planner st (within st.ports pre) t) t
  goes_given t e =
      let (i<, t<, a) = within-asks st.ports pre _ t e in
      record { target = t<; claimant = chosen_same (same_claimants t t<) (λ x x<. refl) (planner-chosen st (within st.ports pre) t _ i< e) }

  given_goes : (i t : ℕ) → Given st pre i t → Goes st (within st.ports pre) t × (planner st (within st.ports pre) t ≡ i)
  given_goes i t g =
      let first = chosen_same (λ x x<. sym (same_claimants t g.target x x<)) (λ x x<. refl) g.claimant in
      let p = planner-chosen st (within st.ports pre) t i first.below first.asks_too in
      (p.asks_too, chosen-once p first)

  -- what is held after the planned stage was given
  pub start_held : (i t : ℕ) → asks (start st req pre).held i t ≡ true → Given st pre i t
  start_held i t e =
      let (t<, goes, q) = stage.held_goes i t e in
      rw q at (goes_given t goes)

  -- and what was given is held
  pub given_held : (i t : ℕ) → i < length req → Given st pre i t → asks (start st req pre).held i t ≡ true
  given_held i t row g =
      let (goes, q) = given_goes i t g in
      rw q at (stage.goes_held t g.target goes (rw (q, length-replicate) row))

  pub start_rows : length (start st req pre).held ≡ length req
  start_rows = stage.rows ∙ length-replicate (length req) 0

  -- what is live after it is what rule 4 says
  pub start_live : (i t : ℕ) → (asks (start st req pre).live i t ≡ true) ↔ Live st req pre i t
  start_live i t = (to, from)
    where
      to : asks (start st req pre).live i t ≡ true → Live st req pre i t
      to e =
          let (a, b) = stage.live_open i t e in
          let (i<, t<, asked) = within-asks st.ports req i t a in
          record {
            initiator = i<;
            target = t<;
            asked = asked;
            given_none = λ u g. (b u g.target (given_goes i u g).0).0 (given_goes i u g).1;
            given_to_none = λ j g. (b t g.target (given_goes j t g).0).1 refl;
          }

      from : Live st req pre i t → asks (start st req pre).live i t ≡ true
      from l = stage.open_live i t (asks-within st.ports req i t l.initiator l.target l.asked)
          (λ u u< g. (λ q. l.given_none u (rw q at (goes_given u g)), λ q. l.given_to_none _ (rw q at (goes_given u g))))
