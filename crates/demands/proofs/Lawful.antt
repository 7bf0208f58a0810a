-- No target twice, and nothing from nowhere: two choices of what the joining of a live pair keeps.
use mathlib.Core.Path.{◌≡◌, sym, ◌∙◌}
use mathlib.Core.Logic.{◌⊎◌, inl, inr, ⊎_elim}
use mathlib.Core.Bool.{true}
use mathlib.Core.List.{List}
use Prim.Native.Nat.{ℕ, ◌<◌}
use lib.ListN.{length}
use Rattle.laws.specs.Sets.{asks}
use Rattle.ports.specs.declared.state.State.{State}
use Rattle.ports.specs.declared.state.Mode.{Mode}
use Rattle.choices.specs.Join.{join}
use Rattle.planned.specs.Planned.{start}
use Rattle.lcf.specs.Slot.{matched}
use Rattle.choices.specs.declared.work.Work.{Work}
use Rattle.demands.specs.Origin.{Given, Live, Alone}
use Rattle.demands.proofs.Choice.{chosen-once}
use Rattle.demands.proofs.Join.{live_left, held_cases, held_still}
use Rattle.demands.proofs.Keeps.{mode_keeps}
use Rattle.demands.proofs.Stage.{start_held, given_held, start_live}

-- nothing live shares a row or a column with what is held
record Settled (s : Work) : Type 0 where
  row_done : (i t u : ℕ) → asks s.held i t ≡ true → asks s.live i u ≡ true → ⊥
  column_done : (i j t : ℕ) → asks s.held i t ≡ true → asks s.live j t ≡ true → ⊥

join_settled : (s : Work) (w c : ℕ) → Settled s → Settled (join s w c)
join_settled s w c h = record {
  row_done = λ i t u a l.
      let x = live_left s w c i u l in
      ⊎_elim (λ b. h.row_done i t u b x.was) (λ b. x.other_row b.0) (held_cases s w c i t a);
  column_done = λ i j t a l.
      let x = live_left s w c j t l in
      ⊎_elim (λ b. h.column_done i j t b x.was) (λ b. x.other_column b.1) (held_cases s w c i t a);
}

module _ (st : State) (req pre : List ℕ) where
  start_settled : Settled (start st req pre)
  start_settled = record {
    row_done = λ i t u a l. ((start_live st req pre i u).0 l).given_none t (start_held st req pre i t a);
    column_done = λ i j t a l. ((start_live st req pre j t).0 l).given_to_none i (start_held st req pre i t a);
  }

  -- ---- no target twice

  record Apart (s : Work) : Type 0 where
    settled : Settled s
    once : (i j t : ℕ) → asks s.held i t ≡ true → asks s.held j t ≡ true → i ≡ j

  join_apart : (s : Work) (w c : ℕ) → asks s.live w c ≡ true → Apart s → Apart (join s w c)
  join_apart s w c live h = record {
    settled = join_settled s w c h.settled;
    once = λ i j t a b. ⊎_elim
        (λ x. ⊎_elim (h.once i j t x) (λ y. absurd (h.settled.column_done i w t x (rw y.1 live))) (held_cases s w c j t b))
        (λ x. ⊎_elim (λ y. absurd (h.settled.column_done j w t y (rw x.1 live))) (λ y. x.0 ∙ sym y.0) (held_cases s w c j t b))
        (held_cases s w c i t a);
  }

  start_apart : Apart (start st req pre)
  start_apart = record { settled = start_settled; once = λ i j t a b. chosen-once (start_held st req pre i t a).claimant (start_held st req pre j t b).claimant }

  -- ---- nothing from nowhere

  -- given in the planned stage, or live after it and all that its initiator holds
  abbrev pub Source : List ℕ → ℕ → ℕ → Type 0
  Source held i t = Given st pre i t ⊎ (Live st req pre i t × Alone held i t)

  record Sourced (s : Work) : Type 0 where
    settled : Settled s
    still_live : (i t : ℕ) → asks s.live i t ≡ true → Live st req pre i t
    source : (i t : ℕ) → asks s.held i t ≡ true → Source s.held i t

  join_sourced : (s : Work) (w c : ℕ) → asks s.live w c ≡ true → Sourced s → Sourced (join s w c)
  join_sourced s w c live h = record {
    settled = join_settled s w c h.settled;
    still_live = λ i t l. h.still_live i t (live_left s w c i t l).was;
    source = λ i t a. ⊎_elim
        (λ x. ⊎_elim inl (λ y. inr (y.0, alone_still i t x y.1)) (h.source i t x))
        (λ x. inr (rw (x.0, x.1) (h.still_live w c live), alone_now i t x.0 x.1))
        (held_cases s w c i t a);
  }
    where
      -- a row that holds something has no live request, so it gains nothing
      alone_still : (i t : ℕ) → asks s.held i t ≡ true → Alone s.held i t → Alone (join s w c).held i t
      alone_still i t x only u b = ⊎_elim (only u) (λ y. absurd (h.settled.row_done i t c x (rw y.0 live))) (held_cases s w c i u b)

      -- and a row with a live request held nothing
      alone_now : (i t : ℕ) → i ≡ w → t ≡ c → Alone (join s w c).held i t
      alone_now i t p q u b = ⊎_elim (λ y. absurd (h.settled.row_done i u c y (rw p live))) (λ y. y.1 ∙ sym q) (held_cases s w c i u b)

  start_sourced : Sourced (start st req pre)
  start_sourced = record {
    settled = start_settled;
    still_live = λ i t. (start_live st req pre i t).0;
    source = λ i t a. inl (start_held st req pre i t a);
  }

  -- ---- in every mode

  pub matched-given : (mode : Mode) (i t : ℕ) → i < length req → Given st pre i t → asks (matched st mode req pre).work.held i t ≡ true
  unfolding matched
  matched-given mode i t row g = mode_keeps (λ u. asks u.held i t ≡ true) (λ u w c l. held_still u w c i t) st mode (start st req pre)
      (given_held st req pre i t row g)

  pub matched-once : (mode : Mode) (i j t : ℕ) → asks (matched st mode req pre).work.held i t ≡ true
      → asks (matched st mode req pre).work.held j t ≡ true → i ≡ j
  unfolding matched
  matched-once mode = (mode_keeps Apart join_apart st mode (start st req pre) start_apart).once

  pub matched_source : (mode : Mode) (i t : ℕ) → asks (matched st mode req pre).work.held i t ≡ true → Source (matched st mode req pre).work.held i t
  unfolding matched
  matched_source mode = (mode_keeps Sourced join_sourced st mode (start st req pre) start_sourced).source
