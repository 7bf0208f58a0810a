-- What sees only a part of a table, a set or a score agrees where that part agrees.
use mathlib.Core.Path.{◌≡◌, refl, sym, ap, ◌∙◌}
use mathlib.Core.Bool.{Bool, true, false, not, ◌&&◌, ◌||◌, cond}
use mathlib.Core.List.{List}
use Prim.Native.Nat.{ℕ, zero, suc, ◌<◌}
use native.Mathlib.Nat.{zero-mul, sub-zero}
use native.Mathlib.Decide.{dec_lt, ℕ_discrete}
use native.Mathlib.Omega.{arith}
use lib.Count.{ones}
use lib.Dec.{ltb}
use lib.ListN.{length, get_or, set, get_or-map}
use lib.Seq.{get_or-set_same, get_or-set_other, set_out}
use borrow.Author.Tests.{eqb-false}
use Rattle.laws.specs.Steps.{steps}
use Rattle.laws.specs.Sets.{digit, has, without, gathered, sizes, tabled}
use Rattle.laws.proofs.Loops.{same_steps}
use Rattle.laws.proofs.Members.{gathered-has, has-gathered}
use Rattle.laws.proofs.Rows.{length_tabled}
use Rattle.laws.proofs.Tests.{same}
use Rattle.choices.specs.Choice.{choice}

-- what holds of both, after as many steps in both, if each step keeps it
pub steps_alike : {A B : Type 0} (R : A → B → Type 0) (f : ℕ → A → A) (g : ℕ → B → B) (x : A) (y : B) (n : ℕ)
    → ((k : ℕ) (u : A) (v : B) → R u v → R (f k u) (g k v)) → R x y → R (steps f x n) (steps g y n)
unfolding steps
steps_alike R f g x y zero step r = r
steps_alike R f g x y (suc n) step r = step n _ _ (steps_alike R f g x y n step r)

-- ---- rows

pub set_agrees : (a b : List ℕ) (w v v' i : ℕ) → length a ≡ length b → get_or a i 0 ≡ get_or b i 0 → (i ≡ w → v ≡ v') → get_or (set a w v) i 0 ≡ get_or (set b w v') i 0
set_agrees a b w v v' i long row e = go (ℕ_discrete i w) (dec_lt w (length a))
  where
    go : Dec (i ≡ w) → Dec (w < length a) → get_or (set a w v) i 0 ≡ get_or (set b w v') i 0
    go (no q) d = get_or-set_other a w i v 0 q ∙ row ∙ sym (get_or-set_other b w i v' 0 q)
    go (yes q) (yes h) = rw q (get_or-set_same a w v 0 h ∙ e q ∙ sym (get_or-set_same b w v' 0 (rw (← long) h)))
    go (yes q) (no h) = rw (set_out a w v (omega arith), set_out b w v' (omega arith)) row

pub tabled-agrees : (m : ℕ) (f g : ℕ → ℕ) (n k : ℕ) → (k < n → f k ≡ g k) → get_or (tabled m f n) k 0 ≡ get_or (tabled m g n) k 0
unfolding steps
tabled-agrees m f g zero k e = refl
tabled-agrees m f g (suc n) k e =
    set_agrees (tabled m f n) (tabled m g n) n (f n) (g n) k (length_tabled m f n ∙ sym (length_tabled m g n)) (tabled-agrees m f g n k (λ l. e (omega arith))) (λ q. rw (← q) (e (omega arith)))

pub sizes_agree : (a b : List ℕ) (i : ℕ) → get_or a i 0 ≡ get_or b i 0 → get_or (sizes a) i 0 ≡ get_or (sizes b) i 0
unfolding ones
sizes_agree a b i e = get_or-map ones a i 0 ∙ ap ones e ∙ sym (get_or-map ones b i 0)

-- ---- sets

module _ (p q : ℕ → Bool) where
  pub gathered-agrees : (n : ℕ) → ((k : ℕ) → k < n → p k ≡ q k) → gathered p n ≡ gathered q n
  gathered-agrees n h = same_steps _ _ 0 n (λ k u l. rw (h k l))

  pub member_agrees : (n j : ℕ) → (j < n → p j ≡ q j) → has (gathered p n) j ≡ has (gathered q n) j
  member_agrees n j e = same _ _
      (λ x. let (l, y) = gathered-has p n j x in has-gathered q n j l ∙ sym (e l) ∙ y)
      (λ x. let (l, y) = gathered-has q n j x in has-gathered p n j l ∙ e l ∙ y)

-- what is not in a set is not taken away
pub without_absent : (s k : ℕ) → has s k ≡ false → without s k ≡ s
without_absent s k e =
    let none : digit s k ≡ 0 = omega (arith, eqb-false (digit s k) 1 e) in
    rw (none, zero-mul) (sub-zero s)

-- ---- the choice

-- it sees no more than the numbers of those with p
pub choice-agrees : (p : ℕ → Bool) (f g : ℕ → ℕ) (n a : ℕ) → ((x : ℕ) → p x ≡ true → f x ≡ g x) → choice p f n a ≡ choice p g n a
unfolding choice
choice-agrees p f g n a h = same_steps _ _ a n (λ k b l. step _ b (p _) (p b) refl refl)
  where
    step : (x b : ℕ) (u v : Bool) → p x ≡ u → p b ≡ v → cond (u && (not v || ltb (f x) (f b))) x b ≡ cond (u && (not v || ltb (g x) (g b))) x b
    step x b false v e r = refl
    step x b true false e r = refl
    step x b true true e r = rw (h x e, h b r)
