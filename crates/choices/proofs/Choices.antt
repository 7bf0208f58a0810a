-- Laws of the rotation and of the choice, over any p, f, n and start.
use mathlib.Core.Path.{◌≡◌, refl, sym, ap, ◌∙◌}
use mathlib.Core.Logic.{◌≢◌}
use mathlib.Core.Bool.{Bool, true, false, ◌&&◌, false≢true}
use Prim.Native.Nat.{ℕ, zero, suc, ◌+◌, ◌-◌, ◌*◌, ◌/◌, ◌%◌, ◌^◌, ◌<◌, ◌≤◌}
use native.Mathlib.Nat.{lt_of_lt_of_le, mod-lt, mod-eq_of_lt, add-mod_right, mod-add-mod, zero-div, zero-add, add-zero, add-suc, mul-le-mul_right}
use native.Mathlib.Numerals.{add-one}
use native.Mathlib.Omega.{arith}
use borrow.Author.Tests.{lt-ltb, ltb-true, ltb-false}
use lib.Count.{count_trailing_zeros}
use lib.Dec.{eqb, ltb}
use lib.ListN.{get_or, replicate}
use lib.Pow.{pow_pos, pow_mono, pow-add, shl_exact, shr_lt, shr_le}
use Rattle.laws.specs.Steps.{steps}
use Rattle.laws.specs.Sets.{digit, has}
use Rattle.laws.proofs.Rows.{no_bits}
use Rattle.laws.proofs.Words.{digit_below, digit_shift, digit_past, digit_low, digit-high, first_digit}
use Rattle.choices.specs.Choice.{place, turned, better, chosen, choice}
use Rattle.choices.specs.Scan.{Turned, Scanned}
use Rattle.choices.specs.declared.choice.Scan.{Scan}

holds_left : (a b : Bool) → true ≡ (a && b) → a ≡ true
holds_left true b e = refl
holds_left false b e = absurd (false≢true (sym e))

-- taking y away first
pub turns : (n a x y : ℕ) {b r : ℕ} → y < n → b ≡ (a + n - y) % n → r ≡ (b + x) % n → r ≡ turned n a x y
turns n a x y h p q = q ∙ ap (λ z. (z + x) % n) p ∙ mod-add-mod (a + n - y) n x ∙ ap (λ z. z % n) (omega arith)

-- different places of a rotation are different ports
pub places_apart : (n a j k : ℕ) → a < n → j < k → k < n → place n a k ≢ place n a j
places_apart n a j k a< jk kn e =
    let back : (x : ℕ) → x < n → ((a + x) % n + (n - a)) % n ≡ x = λ x x<.
    let q : a + x + (n - a) ≡ x + n = omega arith in
    mod-add-mod (a + x) n (n - a) ∙ ap (λ z. z % n) q ∙ add-mod_right x n ∙ mod-eq_of_lt x< in
    omega (arith, sym (back k kn) ∙ ap (λ z. (z + (n - a)) % n) e ∙ back j (omega arith))

-- where the numbers are all 0, the first with p is chosen
pub first : (m s n a : ℕ) {u r : ℕ} → u ≡ s → r ≡ choice (has u) (λ x. get_or (replicate m 0) x 0) n a → r ≡ choice (has s) (λ x. 0) n a
first m s n a p e = e ∙ rw p (ap (λ f. choice (has s) f n a) (λ i x. no_bits m x i))

-- the lower a of n bits moved above the others: bit j is then the j-th place of the rotation from a
module _ (u n a : ℕ) (h : a < n) where
  abbrev low : ℕ
  low = u % 2 ^ n % 2 ^ a

  abbrev high : ℕ
  high = u % 2 ^ n / 2 ^ a

  high_lt : high < 2 ^ (n - a)
  high_lt = let e : n - a + a ≡ n = omega arith in shr_lt (n - a) a (rw e (mod-lt u (pow_pos n)))

  rotated_lt : low * 2 ^ (n - a) + high < 2 ^ n
  rotated_lt = omega (arith, high_lt, mul-le-mul_right (2 ^ (n - a)) (mod-lt (u % 2 ^ n) (pow_pos a)), pow-add 2 a (n - a), ap (λ z. 2 ^ z) size)
    where
      size : a + (n - a) ≡ n
      size = omega arith

  rotates : Turned (has u) n a 0 (low * 2 ^ (n - a) + high)
  rotates j = rw zero-add (go (ltb j (n - a)) (ltb j n) refl refl)
    where
      go : (b c : Bool) → ltb j (n - a) ≡ b → ltb j n ≡ c → has (low * 2 ^ (n - a) + high) j ≡ (c && has u (place n a j))
      go true true p q =
          let l = ltb-true j (n - a) p in
          ap (λ d. eqb d 1)
          (digit_low low (n - a) high high_lt j l ∙ digit_shift (u % 2 ^ n) a j ∙ digit_below u n (a + j) (omega arith) ∙ ap (digit u) (sym (mod-eq_of_lt (omega arith))))
      go true false p q = absurd (omega (arith, ltb-true j (n - a) p, ltb-false j n q))
      go false true p q =
          let g = ltb-false j (n - a) p in
          let l = ltb-true j n q in
          let i : ℕ = j - (n - a) in
          let e : j ≡ n - a + i = omega arith in
          let t : i + n ≡ a + j = omega arith in
          let m : i ≡ place n a j = sym (mod-eq_of_lt (omega arith)) ∙ sym (add-mod_right i n) ∙ ap (λ x. x % n) t in
          ap (λ d. eqb d 1)
          (ap (digit (low * 2 ^ (n - a) + high)) e ∙ digit-high low (n - a) high high_lt i ∙ digit_below (u % 2 ^ n) a i (omega arith) ∙ digit_below u n i (omega arith) ∙ ap (digit u) m)
      go false false p q = ap (λ d. eqb d 1) (digit_past _ n j rotated_lt (ltb-false j n q))

  -- the same in a word of w bits
  module _ (w : ℕ) {s l : ℕ} (g : n ≤ w) (e : s ≡ u % 2 ^ n) (d : l ≡ s % 2 ^ a) where
    fits : (l * 2 ^ (n - a)) % 2 ^ w + s / 2 ^ a ≡ low * 2 ^ (n - a) + high
    fits = rw (d, e, shl_exact a (n - a) w (mod-lt (u % 2 ^ n) (pow_pos a)) (omega arith))

    pub rotated_fits : (l * 2 ^ (n - a)) % 2 ^ w + s / 2 ^ a < 2 ^ w
    rotated_fits = rw fits (lt_of_lt_of_le rotated_lt (pow_mono g))

    pub rotated : Turned (has u) n a 0 ((l * 2 ^ (n - a)) % 2 ^ w + s / 2 ^ a)
    rotated j = ap (λ r. has r j) fits ∙ rotates j

module _ (p : ℕ → Bool) (f : ℕ → ℕ) (n a : ℕ) where
  -- places without p change nothing
  skips : (k d : ℕ) → ((j : ℕ) → j < d → p (place n a (k + j)) ≡ false) → chosen p f n a (k + d) ≡ chosen p f n a k
  unfolding steps
  skips k zero h = ap (chosen p f n a) (add-zero k)
  skips k (suc d) h = rw (add-suc, h d (omega arith)) (skips k d (λ j l. h j (omega arith)))

  module _ (s : Scan) (i : Scanned p f n a s) where
    passes : (j : ℕ) → s.passed + j < n → digit s.left j ≡ 0 → p (place n a (s.passed + j)) ≡ false
    passes j l z = sym (rw (z, lt-ltb _ _ l) at (i.rest j))

    pub ends : s.left ≡ 0 → s.best ≡ choice p f n a
    unfolding choice
    ends e =
        let t : s.passed + (n - s.passed) ≡ n = omega (arith, i.within) in
        i.best ∙ sym (skips s.passed (n - s.passed) (λ j l. passes j (omega arith) (rw e (ap (λ x. x % 2) (zero-div (2 ^ j)))))) ∙ ap (chosen p f n a) t

    module _ (w : ℕ) (e : s.left ≡ 0 → ⊥) (h : s.left < 2 ^ w) where
      abbrev gap : ℕ
      gap = count_trailing_zeros w s.left

      pub near : s.passed + gap < n
      near = ltb-true _ n (holds_left _ _ (rw (first_digit w s.left e h).0 at (i.rest gap)))

      pub less : s.left / 2 ^ gap / 2 < s.left
      less = omega (arith, shr_le s.left gap)

      pub after : {r : ℕ} → r ≡ better p f (place n a (s.passed + gap)) s.best → r < n
          → Scanned p f n a (record { left = s.left / 2 ^ gap / 2; passed = s.passed + gap + 1; best = r })
      unfolding steps
      after q l = record {
        rest = λ j.
            let t : s.passed + (gap + (1 + j)) ≡ s.passed + gap + 1 + j = omega arith in
            ap (λ d. eqb d 1) (digit_shift (s.left / 2 ^ gap) 1 j ∙ digit_shift s.left gap (1 + j)) ∙ (rw t at (i.rest (gap + (1 + j))));
        best = q ∙ ap (better p f (place n a (s.passed + gap))) (i.best ∙ sym (skips s.passed gap (λ j l. passes j (omega (arith, near)) ((first_digit w s.left e h).1 j l))))
            ∙ ap (chosen p f n a) (sym (add-one (s.passed + gap)));
        within = omega (arith, near);
        range = l;
      }
