-- The choice that the definitions make is the one that the rule names, and the rule names one.
use mathlib.Core.Path.{◌≡◌, refl, sym, ap, ◌∙◌}
use mathlib.Core.Bool.{Bool, true, false, not, ◌&&◌, ◌||◌, cond, true≢false}
use Prim.Native.Nat.{ℕ, suc, ◌+◌, ◌-◌, ◌%◌, ◌≤◌, ◌<◌}
use native.Mathlib.Nat.{add-mod_right, mod-eq_of_lt, mod-lt}
use native.Mathlib.Decide.{dec_le, dec_lt}
use native.Mathlib.Omega.{arith}
use lib.Dec.{ltb}
use borrow.Author.Tests.{ltb-true, ltb-false}
use Rattle.laws.proofs.Steps.{upto, kept}
use Rattle.choices.specs.Choice.{place, better, choice}
use Rattle.demands.specs.Choice.{Chosen}
use Rattle.demands.proofs.Keeps.{first_place}

-- every number below n has its place in the rotation
pub placed : (n a x : ℕ) → a < n → x < n → (k : ℕ) × (k < n) × (place n a k ≡ x)
placed n a x a< x< = go (dec_le a x)
  where
    go : Dec (a ≤ x) → (k : ℕ) × (k < n) × (place n a k ≡ x)
    go (yes h) = (x - a, omega arith, ap (λ y. y % n) (omega arith) ∙ mod-eq_of_lt x<)
    go (no h) = (x + n - a, omega arith, ap (λ y. y % n) (omega arith) ∙ add-mod_right x n ∙ mod-eq_of_lt x<)

module _ (p : ℕ → Bool) (f : ℕ → ℕ) (n a : ℕ) (a< : a < n) where
  -- b is chosen among the first k of the rotation
  record Best (k b : ℕ) : Type 0 where
    least : (j : ℕ) → j < k → p (place n a j) ≡ true → (p b ≡ true) × (f b ≤ f (place n a j))
    -- b is one of them, and those with p before it have greater numbers (b is a, the first, while none has p)
    turn : ℕ
    turn_below : turn < n
    in_turn : place n a turn ≡ b
    first : (j : ℕ) → j < turn → p (place n a j) ≡ true → f b < f (place n a j)

  begins : Best 0 a
  begins = record { least = λ j h. absurd (omega arith); turn = 0; turn_below = omega arith; in_turn = first_place n a a<; first = λ j h. absurd (omega arith) }

  -- the step's cases: x is better, or it lacks p, or b has p and no greater number
  data Step (x b : ℕ) : ℕ → Type 0 where
    takes : p x ≡ true → (p b ≡ true → f x < f b) → Step x b x
    lacks : p x ≡ false → Step x b b
    stays : p b ≡ true → f b ≤ f x → Step x b b

  step : (x b : ℕ) → Step x b (better p f x b)
  step x b = go (p x) (p b) (ltb (f x) (f b)) refl refl refl
    where
      go : (u v w : Bool) → p x ≡ u → p b ≡ v → ltb (f x) (f b) ≡ w → Step x b (cond (u && (not v || w)) x b)
      go false v w e1 e2 e3 = lacks e1
      go true false w e1 e2 e3 = takes e1 (λ e. absurd (true≢false (sym e ∙ e2)))
      go true true true e1 e2 e3 = takes e1 (λ e. ltb-true (f x) (f b) e3)
      go true true false e1 e2 e3 = stays e2 (ltb-false (f x) (f b) e3)

  goes_on : (k b : ℕ) → k < n → Best k b → Best (suc k) (better p f (place n a k) b)
  goes_on k b k< h = go (step (place n a k) b)
    where
      Least : ℕ → ℕ → Type 0
      Least r j = p (place n a j) ≡ true → (p r ≡ true) × (f r ≤ f (place n a j))

      stay : Least b k → Best (suc k) b
      stay now = record { least = upto (Least b) k h.least now; turn = h.turn; turn_below = h.turn_below; in_turn = h.in_turn; first = h.first }

      go : {r : ℕ} → Step (place n a k) b r → Best (suc k) r
      go (takes has less) = record {
        least = upto (Least (place n a k)) k (λ j l e. let (x, y) = h.least j l e in (has, omega (arith, less x))) (λ e. (has, omega arith));
        turn = k;
        turn_below = k<;
        in_turn = refl;
        first = λ j l e. let (x, y) = h.least j l e in omega (arith, less x);
      }
      go (lacks none) = stay (λ e. absurd (true≢false (sym e ∙ none)))
      go (stays has le) = stay (λ e. (has, le))

  best : Best n (choice p f n a)
  unfolding choice
  best = kept _ a Best n goes_on begins

  pub choice-chosen : (x : ℕ) → x < n → p x ≡ true → Chosen p f n a (choice p f n a)
  choice-chosen x x< e = record {
    below = rw (← best.in_turn) (mod-lt (a + best.turn) (omega arith));
    asks_too = (least x x< e).0;
    lowest = λ y y< q. (least y y< q).1;
    turn = best.turn;
    turn_below = best.turn_below;
    in_turn = best.in_turn;
    first = λ k l q same. let z = best.first k l q in omega arith;
  }
    where
      least : (y : ℕ) → y < n → p y ≡ true → (p (choice p f n a) ≡ true) × (f (choice p f n a) ≤ f y)
      least y y< q = let (k, k<, at) = placed n a y a< y< in rw at at (best.least k k< (rw at q))

module _ {p : ℕ → Bool} {f : ℕ → ℕ} {n a : ℕ} where
  -- the rule names one
  pub chosen-once : {c d : ℕ} → Chosen p f n a c → Chosen p f n a d → c ≡ d
  chosen-once {c} {d} x y = go (dec_lt x.turn y.turn) (dec_lt y.turn x.turn)
    where
      equal : f c ≡ f d
      equal = omega (arith, x.lowest d y.below y.asks_too, y.lowest c x.below x.asks_too)

      -- of two, the later one in the rotation is not chosen
      later : {c d : ℕ} → f c ≡ f d → (x : Chosen p f n a c) (y : Chosen p f n a d) → x.turn < y.turn → ⊥
      later q x y l = y.first x.turn l (rw x.in_turn x.asks_too) (rw x.in_turn q)

      go : Dec (x.turn < y.turn) → Dec (y.turn < x.turn) → c ≡ d
      go (yes l) e = absurd (later equal x y l)
      go (no l) (yes k) = absurd (later (sym equal) y x k)
      go (no l) (no k) = let q : x.turn ≡ y.turn = omega arith in sym x.in_turn ∙ ap (place n a) q ∙ y.in_turn

  -- it sees no more than who asks below n, and with what number
  pub chosen_same : {q : ℕ → Bool} {g : ℕ → ℕ} {c : ℕ} → ((x : ℕ) → x < n → p x ≡ q x) → ((x : ℕ) → x < n → f x ≡ g x)
      → Chosen p f n a c → Chosen q g n a c
  chosen_same {q} {g} {c} same-asking same_number h = record {
    below = h.below;
    asks_too = sym (same-asking c h.below) ∙ h.asks_too;
    lowest = λ x x< e. omega (arith, h.lowest x x< (same-asking x x< ∙ e), same_number x x<, same_number c h.below);
    turn = h.turn;
    turn_below = h.turn_below;
    in_turn = h.in_turn;
    first = λ k l e s.
        let at : place n a k < n = mod-lt (a + k) (omega (arith, h.below)) in
        h.first k l (same-asking (place n a k) at ∙ e) (same_number (place n a k) at ∙ s ∙ sym (same_number c h.below));
  }
