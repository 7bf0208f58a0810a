-- What a test of tests says, case by case.
use mathlib.Core.Path.{◌≡◌, refl, sym}
use mathlib.Core.Logic.{◌⊎◌, inl, inr}
use mathlib.Core.Bool.{Bool, true, false, ◌&&◌, ◌||◌, cond, true≢false}
use Prim.Native.Nat.{ℕ, ◌≤◌}
use lib.Dec.{leb}
use borrow.Author.Tests.{le-leb, leb-true}
use Rattle.laws.specs.Tests.{between}

pub both : (a b : Bool) → a && b ≡ true → (a ≡ true) × (b ≡ true)
both true b e = (refl, e)
both false b e = absurd (true≢false (sym e))

pub every : {a b : Bool} → a ≡ true → b ≡ true → a && b ≡ true
every p q = rw (p, q)

pub either : (a b : Bool) → a || b ≡ true → (a ≡ true) ⊎ (b ≡ true)
either true b e = inl refl
either false b e = inr e

pub neither : (a b : Bool) → a || b ≡ false → (a ≡ false) × (b ≡ false)
neither true b e = absurd (true≢false e)
neither false b e = (refl, e)

pub refuted : (b : Bool) → (b ≡ true → ⊥) → b ≡ false
refuted true f = absurd (f refl)
refuted false f = refl

-- two tests that hold together are one
pub same : (a b : Bool) → (a ≡ true → b ≡ true) → (b ≡ true → a ≡ true) → a ≡ b
same true b f g = sym (f refl)
same false b f g = sym (refuted b (λ e. true≢false (sym (g e))))

-- what holds of both arms, each under its test, holds of the one taken
pub arms : {A : Type 0} (P : A → Type 0) (b : Bool) (x y : A) → (b ≡ true → P x) → (b ≡ false → P y) → P (cond b x y)
arms P true x y f g = f refl
arms P false x y f g = g refl

pub from_to : (a b x : ℕ) → between a b x ≡ true → (a ≤ x) × (x ≤ b)
from_to a b x e = let (p, q) = both (leb a x) (leb x b) e in (leb-true a x p, leb-true x b q)

pub in_range : {a b x : ℕ} → a ≤ x → x ≤ b → between a b x ≡ true
in_range p q = every (le-leb _ _ p) (le-leb _ _ q)
