-- The ports of a set that are of one operator.
use Rattle.std.proofs.Common.{◌≡◌, ℕ, ◌-◌, ◌%◌, ◌^◌, ◌≤◌, Bool, true, false, cond, not, ◌&&◌, eqb, sym, refl, ap, ◌∙◌, arith, eqb-true}
use mathlib.Core.Bool.{and-true}
use native.Mathlib.Nat.{zero-div}
use borrow.Author.Tests.{eqb-false, not-true}
use lib.Bits.{bit_and, and_le_l}
use Rattle.laws.specs.Sets.{has}
use Rattle.laws.proofs.Tests.{both, arms}
use Rattle.laws.proofs.Words.{has_and, has_rest}
use Rattle.ports.specs.Owners.{operator, among}

-- where nobody is of operator 1, all are of operator 0
pub no_owners : (p : ℕ) → operator 0 p ≡ 0
no_owners p = ap (λ x. x % 2) (zero-div (2 ^ p))

module _ (owners : ℕ) where
  same_operator : (i t : ℕ) → has owners i ≡ has owners t → operator owners i ≡ operator owners t
  same_operator i t e = go (has owners t) refl
    where
      go : (b : Bool) → has owners t ≡ b → operator owners i ≡ operator owners t
      go true q = eqb-true _ 1 (e ∙ q) ∙ sym (eqb-true _ 1 q)
      go false q = omega (arith, eqb-false (operator owners i) 1 (e ∙ q), eqb-false (operator owners t) 1 q)

  module _ (i s : ℕ) where
    pub among_le : among owners i s ≤ s
    unfolding among
    among_le = arms (λ x. x ≤ s) (has owners i) _ _ (λ e. and_le_l s owners) (λ e. omega arith)

    -- who is among port i's operator's, in s
    pub among-has : (t : ℕ) → has (among owners i s) t ≡ true → (has s t ≡ true) × (operator owners i ≡ operator owners t)
    unfolding among
    among-has t = go (has owners i) refl
      where
        go : (b : Bool) → has owners i ≡ b → has (cond b (bit_and s owners) (s - bit_and s owners)) t ≡ true → (has s t ≡ true) × (operator owners i ≡ operator owners t)
        go true q e = let (x, y) = both (has s t) _ (sym (has_and s owners t) ∙ e) in (x, same_operator i t (q ∙ sym y))
        go false q e = let (x, y) = both (has s t) _ (sym (has_rest s owners t) ∙ e) in (x, same_operator i t (q ∙ sym (not-true _ y)))

    pub has-among : (t : ℕ) → operator owners i ≡ operator owners t → has (among owners i s) t ≡ has s t
    unfolding among
    has-among t o = go (has owners i) refl
      where
        go : (b : Bool) → has owners i ≡ b → has (cond b (bit_and s owners) (s - bit_and s owners)) t ≡ has s t
        go true q = has_and s owners t ∙ rw (sym (ap (λ d. eqb d 1) o) ∙ q) (and-true (has s t))
        go false q = has_rest s owners t ∙ rw (sym (ap (λ d. eqb d 1) o) ∙ q) (and-true (has s t))

    -- and the others in s
    pub has_others : (t : ℕ) → has (s - among owners i s) t ≡ (has s t && not (has (among owners i s) t))
    unfolding among
    has_others t = go (has owners i)
      where
        both_ways : (a b : Bool) → (a && b ≡ a && not (a && not b)) × (a && not b ≡ a && not (a && b))
        both_ways true true = (refl, refl)
        both_ways true false = (refl, refl)
        both_ways false b = (refl, refl)

        go : (b : Bool) → has (s - cond b (bit_and s owners) (s - bit_and s owners)) t ≡ (has s t && not (has (cond b (bit_and s owners) (s - bit_and s owners)) t))
        go true = rw (has_rest, has_and) (both_ways (has s t) (has owners t)).1
        go false =
            let back : s - (s - bit_and s owners) ≡ bit_and s owners = omega (arith, and_le_l s owners) in
            rw (back, has_rest, has_and) (both_ways (has s t) (has owners t)).0
