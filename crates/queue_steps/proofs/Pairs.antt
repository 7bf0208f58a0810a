-- The number of a pair says the pair.
use mathlib.Core.Path.{◌≡◌, sym, ap, ap₂, ◌∙◌}
use Prim.Native.Nat.{ℕ, ◌+◌, ◌*◌, ◌/◌, ◌%◌, ◌<◌}
use native.Mathlib.Nat.{mod-lt, div-add-mod', mul-add-mod_self_right, mod-eq_of_lt, mul-add-div_right, div-eq_of_lt, add-zero, mul-le-mul_right, mul_assoc}
use native.Mathlib.Omega.{arith}
use lib.Dec.{eqb}
use borrow.Author.Tests.{eq-eqb, eqb-true}
use Rattle.laws.proofs.Tests.{both, every, same}
use Rattle.queue_records.specs.Entries.{initiator_of, target_of, of_pair}
use Rattle.queue_steps.specs.Asking.{pairs, pair_of}

module _ (m : ℕ) (some : 0 < m) where
  -- a number below m behind any number of them
  low : (i t : ℕ) → t < m → (i * m + t) % m ≡ t
  low i t h = mul-add-mod_self_right i m t ∙ mod-eq_of_lt h

  high : (i t : ℕ) → t < m → (i * m + t) / m ≡ i
  high i t h = rw (mul-add-div_right, div-eq_of_lt, add-zero)

  pair_is : (e : ℕ) → pair_of m e ≡ initiator_of m e * m + target_of m e
  pair_is e =
      let i = initiator_of m e in
      let t = target_of m e in
      let i< : i < m = mod-lt (e / m) some in
      let t< : t < m = mod-lt e some in
      let small : i * m + t < m * m = omega (arith, mul-le-mul_right m i<) in
      let is : e ≡ e / m / m * (m * m) + (i * m + t) = rw (← mul_assoc) (omega (arith, div-add-mod' e m, ap (λ z. z * m) (div-add-mod' (e / m) m))) in
      ap (λ z. z % pairs m) is ∙ mul-add-mod_self_right (e / m / m) (m * m) (i * m + t) ∙ mod-eq_of_lt small

  pub pair_of_lem : (e i t : ℕ) → t < m → eqb (pair_of m e) (i * m + t) ≡ of_pair m i t e
  pair_of_lem e i t h = same _ _
      (λ p.
      let is : initiator_of m e * m + target_of m e ≡ i * m + t = sym (pair_is e) ∙ eqb-true (pair_of m e) (i * m + t) p in
      let t< : target_of m e < m = mod-lt e some in
      every (eq-eqb _ _ (sym (high (initiator_of m e) (target_of m e) t<) ∙ ap (λ z. z / m) is ∙ high i t h))
      (eq-eqb _ _ (sym (low (initiator_of m e) (target_of m e) t<) ∙ ap (λ z. z % m) is ∙ low i t h)))
      (λ p.
      let (a, b) = both (eqb (initiator_of m e) i) (eqb (target_of m e) t) p in
      eq-eqb _ _ (pair_is e ∙ ap₂ (λ x y. x * m + y) (eqb-true (initiator_of m e) i a) (eqb-true (target_of m e) t b)))
