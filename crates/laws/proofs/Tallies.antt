-- What a tally says: none, at most one, no more than were looked at, fewer than another, and so many in any stretch.
use mathlib.Core.Path.{◌≡◌, refl, sym, subst, ◌∙◌}
use mathlib.Core.Logic.{◌↔◌, ⊎_elim}
use mathlib.Core.Bool.{Bool, true, false, cond, true≢false}
use Prim.Native.Nat.{ℕ, zero, suc, ◌+◌, ◌*◌, ◌/◌, ◌≤◌, ◌<◌}
use native.Mathlib.Nat.{le_refl, le_of_suc-le-suc, eq-or-lt_of_le, not-suc-le-zero, div-mul-le_self}
use native.Mathlib.Decide.{ℕ_discrete}
use native.Mathlib.Omega.{arith}
use Rattle.laws.specs.Steps.{steps}
use Rattle.laws.specs.Sets.{tally}
use Rattle.laws.proofs.Tests.{refuted}

module _ (p : ℕ → Bool) where
  pub tally_most : (n : ℕ) → tally p n ≤ n
  unfolding steps
  tally_most zero = omega arith
  tally_most (suc n) = go (p n) (tally_most n)
    where
      go : (b : Bool) → tally p n ≤ n → cond b (suc (tally p n)) (tally p n) ≤ suc n
      go true h = omega arith
      go false h = omega arith

  pub tally_none : (n : ℕ) → tally p n ≡ 0 → (h : ℕ) → h < n → p h ≡ false
  unfolding steps
  tally_none zero e h l = absurd (not-suc-le-zero l)
  tally_none (suc n) e h l = go (p n) refl e (tally_none n)
    where
      go : (b : Bool) → p n ≡ b → cond b (suc (tally p n)) (tally p n) ≡ 0 → (tally p n ≡ 0 → (h : ℕ) → h < n → p h ≡ false) → p h ≡ false
      go true q e before = absurd (omega arith)
      go false q e before = ⊎_elim (λ s. rw s q) (before e h) (eq-or-lt_of_le (le_of_suc-le-suc l))

  none_tally : (n : ℕ) → ((h : ℕ) → h < n → p h ≡ true → ⊥) → tally p n ≡ 0
  unfolding steps
  none_tally zero f = refl
  none_tally (suc n) f = rw (refuted (p n) (f n (omega arith))) (none_tally n (λ h l. f h (omega arith)))

  -- fewer than two have p: any two that have it are one
  pub tally_few : (n : ℕ) → (tally p n < 2) ↔ ((g h : ℕ) → g < n → h < n → p g ≡ true → p h ≡ true → g ≡ h)
  unfolding steps
  tally_few zero = (λ e g h l. absurd (not-suc-le-zero l), λ f. omega arith)
  tally_few (suc n) = go (p n) refl (tally_few n)
    where
      Alone : ℕ → Type 0
      Alone n = (g h : ℕ) → g < n → h < n → p g ≡ true → p h ≡ true → g ≡ h

      last : (k : ℕ) → k < suc n → p k ≡ true → ((j : ℕ) → j < n → p j ≡ false) → k ≡ n
      last k l e none = ⊎_elim (λ s. s) (λ s. absurd (true≢false (sym e ∙ none k s))) (eq-or-lt_of_le (le_of_suc-le-suc l))

      earlier : (k : ℕ) → k < suc n → p k ≡ true → p n ≡ false → k < n
      earlier k l e q = ⊎_elim (λ s. absurd (true≢false (sym e ∙ rw s q))) (λ s. s) (eq-or-lt_of_le (le_of_suc-le-suc l))

      go : (b : Bool) → p n ≡ b → ((tally p n < 2) ↔ Alone n) → (cond b (suc (tally p n)) (tally p n) < 2) ↔ Alone (suc n)
      go true q r = (
        λ e g h gl hl a b. let none = tally_none n (omega arith) in last g gl a none ∙ sym (last h hl b none),
        λ f. let e = none_tally n (λ h l a. let s : h ≡ n = f h n (omega arith) (omega arith) a q in omega arith) in omega arith,
      )
      go false q r = (
        λ e g h gl hl a b. r.0 e g h (earlier g gl a q) (earlier h hl b q) a b,
        λ f. r.1 (λ g h gl hl. f g h (omega arith) (omega arith)),
      )

  tally-next : (n : ℕ) → tally p n ≤ tally p (suc n)
  unfolding steps
  tally-next n = go (p n)
    where
      go : (b : Bool) → tally p n ≤ cond b (suc (tally p n)) (tally p n)
      go true = omega arith
      go false = omega arith

  tally-more : (k n : ℕ) → k ≤ n → tally p k ≤ tally p n
  tally-more k zero h = let e : k ≡ 0 = omega arith in rw e (omega arith)
  tally-more k (suc n) h = ⊎_elim (λ e. rw e (le_refl _)) (λ l. omega (arith, tally-more k n (le_of_suc-le-suc l), tally-next n)) (eq-or-lt_of_le h)

  -- one between k and n has p
  pub tally_found : (k h n : ℕ) → k ≤ h → h < n → p h ≡ true → tally p k < tally p n
  unfolding steps
  tally_found k h n from to e =
      let here : tally p (suc h) ≡ suc (tally p h) = rw e in
      omega (arith, tally-more k h from, tally-more (suc h) n to)

  -- if p comes round again after P, as many have it in any P as in the first
  pub tally-round : (P : ℕ) → ((k : ℕ) → p (k + P) ≡ p k) → (k : ℕ) → tally p (k + P) ≡ tally p k + tally p P
  unfolding steps
  tally-round P again zero = let e : 0 + P ≡ P = omega arith in rw e (omega arith)
  tally-round P again (suc k) =
      let e : suc k + P ≡ suc (k + P) = omega arith in
      rw (e, again k) (go (p k) (tally-round P again k))
    where
      go : (b : Bool) → tally p (k + P) ≡ tally p k + tally p P
          → cond b (suc (tally p (k + P))) (tally p (k + P)) ≡ cond b (suc (tally p k)) (tally p k) + tally p P
      go true h = omega arith
      go false h = h

  -- if c or more in any P have it, then c for each P of a stretch
  pub tally_stretch : (P c : ℕ) → ((k : ℕ) → tally p k + c ≤ tally p (k + P)) → (k W : ℕ) → tally p k + W / P * c ≤ tally p (k + W)
  tally_stretch P c each k W = omega (arith, go (W / P), tally-more (k + W / P * P) (k + W) (omega (arith, div-mul-le_self W P)))
    where
      go : (l : ℕ) → tally p k + l * c ≤ tally p (k + l * P)
      go zero = let e : k + 0 * P ≡ k = omega arith in rw e (omega arith)
      go (suc l) =
          let e : k + suc l * P ≡ k + l * P + P = omega arith in
          rw e (omega (arith, go l, each (k + l * P)))

-- whatever has q has p
module _ (p q : ℕ → Bool) (too : (k : ℕ) → q k ≡ true → p k ≡ true) where
  tally-less : (n : ℕ) → tally q n ≤ tally p n
  unfolding steps
  tally-less zero = omega arith
  tally-less (suc n) = go (p n) (q n) (too n) (tally-less n)
    where
      go : (a b : Bool) → (b ≡ true → a ≡ true) → tally q n ≤ tally p n → cond b (suc (tally q n)) (tally q n) ≤ cond a (suc (tally p n)) (tally p n)
      go true true f h = omega arith
      go true false f h = omega arith
      go false true f h = absurd (true≢false (sym (f refl)))
      go false false f h = h

  -- and one has p alone
  pub tally_fewer : (n g : ℕ) → g < n → p g ≡ true → q g ≡ false → tally q n < tally p n
  unfolding steps
  tally_fewer zero g l here gone = absurd (not-suc-le-zero l)
  tally_fewer (suc n) g l here gone = go (ℕ_discrete g n) (λ h. tally_fewer n g h here gone)
    where
      last : (a b : Bool) → (b ≡ true → a ≡ true) → tally q n < tally p n → cond b (suc (tally q n)) (tally q n) < cond a (suc (tally p n)) (tally p n)
      last true true f h = omega arith
      last true false f h = omega arith
      last false true f h = absurd (true≢false (sym (f refl)))
      last false false f h = h

      go : Dec (g ≡ n) → (g < n → tally q n < tally p n) → tally q (suc n) < tally p (suc n)
      go (yes e) before = subst (λ (k : ℕ). tally q (suc k) < tally p (suc k)) e (rw (here, gone) (omega (arith, tally-less g)))
      go (no e) before = last (p n) (q n) (too n) (before (omega arith))
