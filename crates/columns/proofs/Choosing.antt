-- When a number is the choice of rule 5: nobody before it in the rotation has as low a number, and nobody after it has a lower one.
use mathlib.Core.Path.{◌≡◌, refl, sym, ap, ◌∙◌}
use mathlib.Core.Bool.{Bool, true, false, not, ◌&&◌, ◌||◌}
use Prim.Native.Nat.{ℕ, zero, suc, ◌+◌, ◌-◌, ◌≤◌, ◌<◌}
use native.Mathlib.Nat.{add-zero, add-suc}
use native.Mathlib.Omega.{arith}
use lib.Dec.{ltb}
use borrow.Author.Tests.{lt-ltb, le-ltb}
use Rattle.laws.specs.Steps.{steps}
use Rattle.laws.proofs.Tests.{arms}
use Rattle.choices.specs.Choice.{place, better, chosen, choice}

module _ (p : ℕ → Bool) (f : ℕ → ℕ) (n a : ℕ) (c turn : ℕ) (at : place n a turn ≡ c) (asks : p c ≡ true)
    (before : (j : ℕ) → j < turn → p (place n a j) ≡ true → f c < f (place n a j))
    (after : (j : ℕ) → j < n → p (place n a j) ≡ true → f c ≤ f (place n a j)) (start : place n a 0 ≡ a) (turn< : turn < n) where
  -- until its turn, whoever is chosen has a greater number, or is not asking
  until : (k : ℕ) → k ≤ turn → 0 < turn → p (chosen p f n a k) ≡ true → f c < f (chosen p f n a k)
  unfolding steps
  until zero h z = λ q. rw start at (before 0 z (rw start q))
  until (suc k) h z =
      arms (λ b. p b ≡ true → f c < f b) (p (place n a k) && (not (p (chosen p f n a k)) || ltb (f (place n a k)) (f (chosen p f n a k)))) _ _
      (λ _ q. before k h q) (λ _. until k (omega arith) z)

  -- in its turn it is chosen
  takes : (b : ℕ) → (p b ≡ true → f c < f b) → better p f c b ≡ c
  takes b less = go (p b) refl
    where
      go : (v : Bool) → p b ≡ v → better p f c b ≡ c
      go true e = rw (asks, e, lt-ltb (f c) (f b) (less e))
      go false e = rw (asks, e)

  keeps : (x : ℕ) → (p x ≡ true → f c ≤ f x) → better p f x c ≡ c
  keeps x le = go (p x) refl
    where
      go : (v : Bool) → p x ≡ v → better p f x c ≡ c
      go true e = rw (e, asks, le-ltb (f x) (f c) (le e))
      go false e = rw e

  in_turn : chosen p f n a (suc turn) ≡ c
  unfolding steps
  in_turn = go turn refl at
    where
      go : (t : ℕ) → turn ≡ t → place n a t ≡ c → better p f (place n a t) (chosen p f n a t) ≡ c
      go zero e q = rw start (arms (λ x. x ≡ c) (p a && (not (p a) || ltb (f a) (f a))) a a (λ _. sym start ∙ q) (λ _. sym start ∙ q))
      go (suc t) e q = rw q (takes (chosen p f n a (suc t)) (until (suc t) (omega arith) (omega arith)))

  from : (d : ℕ) → suc turn + d ≤ n → chosen p f n a (suc turn + d) ≡ c
  unfolding steps
  from zero h = ap (chosen p f n a) (add-zero (suc turn)) ∙ in_turn
  from (suc d) h = ap (chosen p f n a) (add-suc (suc turn) d) ∙ ap (better p f (place n a (suc turn + d))) (from d (omega arith)) ∙ keeps (place n a (suc turn + d)) (after (suc turn + d) (omega arith))

  pub is_choice : choice p f n a ≡ c
  unfolding choice
  is_choice = let e : suc turn + (n - suc turn) ≡ n = omega arith in rw e at (from (n - suc turn) (omega arith))
