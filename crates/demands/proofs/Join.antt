-- What is held and what is live after a pair is joined.
use mathlib.Core.Path.{◌≡◌, refl, sym, ap, ◌∙◌}
use mathlib.Core.Logic.{◌⊎◌, inl, inr, ⊎_elim, ◌≢◌}
use mathlib.Core.Bool.{true, not, ◌||◌, or-true, true≢false}
use mathlib.Core.List.{map}
use Prim.Native.Nat.{ℕ, ◌<◌}
use native.Mathlib.Nat.{zero-sub}
use native.Mathlib.Decide.{ℕ_discrete}
use lib.Dec.{eqb}
use lib.ListN.{length, get_or, set, length-set, get_or-map}
use lib.Seq.{get_or-set_same, get_or-set_other}
use borrow.Author.Tests.{eqb-true, eqb-false, eq-eqb, ne_eqb, not-true}
use Rattle.laws.specs.Sets.{has, asks, with, without}
use Rattle.laws.proofs.Tests.{both, either}
use Rattle.laws.proofs.Members.{has_none, has-with, has-without, set_row, row_emptied}
use Rattle.choices.specs.Join.{join}
use Rattle.choices.specs.declared.work.Work.{Work}

module _ (s : Work) (w c : ℕ) where
  pub row-joined : (i : ℕ) → get_or (join s w c).live i 0 ≡ without (get_or (set s.live w 0) i 0) c
  unfolding join
  row-joined i =
      let g : ℕ → ℕ = λ row. without row c in
      ap (get_or (map g (set s.live w 0)) i) (sym (zero-sub _)) ∙ get_or-map g (set s.live w 0) i 0

  -- what is live was so before, and is in neither the row nor the column
  pub record Left (i t : ℕ) : Type 0 where
    pub was : asks s.live i t ≡ true
    pub other_row : i ≢ w
    pub other_column : t ≢ c

  pub live_left : (i t : ℕ) → asks (join s w c).live i t ≡ true → Left i t
  live_left i t e = go (ℕ_discrete i w)
    where
      had : (not (eqb t c) ≡ true) × (has (get_or (set s.live w 0) i 0) t ≡ true)
      had = both (not (eqb t c)) _ (sym (has-without _ c t) ∙ ap (λ row. has row t) (sym (row-joined i)) ∙ e)

      go : Dec (i ≡ w) → Left i t
      go (yes q) = absurd (true≢false (sym had.1 ∙ ap (λ row. has row t) (ap (λ x. get_or (set s.live w 0) x 0) q ∙ row_emptied s.live w) ∙ has_none t))
      go (no q) = record {
        was = ap (λ row. has row t) (sym (get_or-set_other s.live w i 0 0 q)) ∙ had.1;
        other_row = q;
        other_column = eqb-false t c (not-true _ had.0);
      }

  pub left_live : (i t : ℕ) → Left i t → asks (join s w c).live i t ≡ true
  left_live i t l =
      ap (λ row. has row t) (row-joined i ∙ ap (λ row. without row c) (get_or-set_other s.live w i 0 0 l.other_row))
      ∙ has-without _ c t ∙ rw (ne_eqb t c l.other_column) l.was

  pub held_cases : (i t : ℕ) → asks (join s w c).held i t ≡ true → (asks s.held i t ≡ true) ⊎ ((i ≡ w) × (t ≡ c))
  unfolding join
  held_cases i t e = ⊎_elim
      (λ q. inl (ap (λ row. has row t) (sym q) ∙ e))
      (λ q. ⊎_elim
      (λ h. inl (ap (λ x. asks s.held x t) q.0 ∙ h))
      (λ h. inr (q.0, eqb-true t c h))
      (either (asks s.held w t) (eqb t c) (sym (has-with _ c t) ∙ ap (λ row. has row t) (sym q.1) ∙ e)))
      (set_row s.held w (with (get_or s.held w 0) c) i)

  pub held_still : (i t : ℕ) → asks s.held i t ≡ true → asks (join s w c).held i t ≡ true
  unfolding join
  held_still i t h = ⊎_elim
      (λ q. ap (λ row. has row t) q ∙ h)
      (λ q. ap (λ row. has row t) q.1 ∙ has-with _ c t ∙ ap (λ b. b || eqb t c) (ap (λ x. asks s.held x t) (sym q.0) ∙ h))
      (set_row s.held w (with (get_or s.held w 0) c) i)

  pub held_now : w < length s.held → asks (join s w c).held w c ≡ true
  unfolding join
  held_now h = ap (λ row. has row c) (get_or-set_same s.held w _ 0 h) ∙ has-with (get_or s.held w 0) c c ∙ rw (eq-eqb c c refl) (or-true (asks s.held w c))

  pub held_length : length (join s w c).held ≡ length s.held
  unfolding join
  held_length = length-set s.held w _
