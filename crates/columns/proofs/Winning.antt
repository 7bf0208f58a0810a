-- Who is left after all planes: the choice of rule 5.
use mathlib.Core.Path.{◌≡◌, sym, ap, ◌∙◌}
use mathlib.Core.Logic.{◌⊎◌, inl, inr}
use mathlib.Core.Bool.{Bool, true, true≢false}
use mathlib.Core.List.{List, [], ◌∷◌}
use Prim.Native.Nat.{ℕ, ◌+◌, ◌-◌, ◌*◌, ◌%◌, ◌^◌, ◌≤◌, ◌<◌}
use native.Mathlib.Nat.{mod-lt, mod-eq_of_lt, add-mod_right, add-zero, le_trans, lt_of_le_of_lt}
use native.Mathlib.Decide.{dec_lt, dec_le}
use native.Mathlib.Omega.{arith}
use lib.Bits.{bit_and, bit_xor, and_le_l}
use lib.Dec.{eqb}
use borrow.Author.Tests.{eq-eqb}
use Rattle.laws.specs.Sets.{digit, has}
use Rattle.laws.proofs.Tests.{arms}
use Rattle.laws.proofs.Words.{first_digit}
use Rattle.choices.specs.Choice.{place, choice}
use Rattle.columns.specs.Planes.{value, narrow, lowest, digits, least}
use Rattle.columns.specs.declared.planes.Planes.{Planes}
use Rattle.columns.proofs.Digits.{digit_lt, mask_below, mask_past}
use Rattle.columns.proofs.Narrowing.{Lowest, all_lowest, narrows}
use Rattle.columns.proofs.Choosing.{is_choice}

-- a place of the rotation, before or after it has passed n
placed : (n a j : ℕ) → a < n → j < n → (a + j ≡ place n a j) ⊎ (a + j ≡ place n a j + n)
placed n a j h l = go (dec_lt (a + j) n)
  where
    go : Dec (a + j < n) → (a + j ≡ place n a j) ⊎ (a + j ≡ place n a j + n)
    go (yes g) = inl (sym (mod-eq_of_lt g))
    go (no g) =
        let e : a + j - n + n ≡ a + j = omega arith in
        let q : place n a j ≡ a + j - n = ap (λ z. z % n) (sym e) ∙ add-mod_right (a + j - n) n ∙ mod-eq_of_lt (omega arith) in
        inr (omega arith)

narrow_le : (m plane : ℕ) → narrow m plane ≤ m
unfolding narrow
narrow_le m plane = arms (λ x. x ≤ m) (eqb (bit_and m (bit_xor m plane)) 0) m (bit_and m (bit_xor m plane)) (λ _. omega arith) (λ _. and_le_l m (bit_xor m plane))

lowest_le : (ps : List ℕ) (m : ℕ) → lowest ps m ≤ m
unfolding lowest
lowest_le [] m = omega arith
lowest_le (p ∷ ps) m = le_trans (narrow_le (lowest ps m) p) (lowest_le ps m)

-- narrowed by all planes, those are left whose number is the lowest
by_number : (ps : List ℕ) (m : ℕ) → (m ≡ 0 → ⊥) → Lowest (has m) (value ps) (lowest ps m)
unfolding lowest value
by_number [] m some = all_lowest m some
by_number (p ∷ ps) m some =
    let l = narrows (by_number ps m some) p in
    record {
      some = l.some;
      sound = l.sound;
      least = λ x y h k. omega (arith, l.least x y h k);
      full = λ x y h k e. l.full x y h k (omega arith);
    }

module _ (m : ℕ) (p : Planes) (n a : ℕ) (a< : a < n) (some : m ≡ 0 → ⊥) (word : m < 2 ^ 32) (inside : (x : ℕ) → has m x ≡ true → x < n) where
  abbrev left : ℕ
  left = narrow (lowest (digits p) m) (2 ^ a - 1)

  lowest_first : Lowest (has m) (λ x. 2 * value (digits p) x + digit (2 ^ a - 1) x) left
  lowest_first = narrows (by_number (digits p) m some) (2 ^ a - 1)

  fits : left < 2 ^ 32
  fits = lt_of_le_of_lt (le_trans (narrow_le (lowest (digits p) m) _) (lowest_le (digits p) m)) word

  first : (digit left (least m p a) ≡ 1) × ((k : ℕ) → k < least m p a → digit left k ≡ 0)
  unfolding least
  first = first_digit 32 left lowest_first.some fits

  is_left : has left (least m p a) ≡ true
  is_left = eq-eqb _ 1 first.0

  pub least_in : has m (least m p a) ≡ true
  least_in = lowest_first.sound (least m p a) is_left

  -- nobody has a lower number
  none_lower : (y : ℕ) → has m y ≡ true → value (digits p) (least m p a) ≤ value (digits p) y
  none_lower y h = omega (arith, lowest_first.least (least m p a) y is_left h, digit_lt (2 ^ a - 1) y)

  -- of those with the same number, on the same side of a, nobody is below it
  none_below : (y : ℕ) → has m y ≡ true → y < least m p a → digit (2 ^ a - 1) y ≡ digit (2 ^ a - 1) (least m p a) → value (digits p) (least m p a) < value (digits p) y
  none_below y h l e = go (dec_lt (value (digits p) (least m p a)) (value (digits p) y))
    where
      go : Dec (value (digits p) (least m p a) < value (digits p) y) → value (digits p) (least m p a) < value (digits p) y
      go (yes g) = g
      go (no g) =
          let in_left : has left y ≡ true = lowest_first.full (least m p a) y is_left h (omega arith) in
          absurd (true≢false (sym in_left ∙ ap (λ d. eqb d 1) (first.1 y l)))

  -- of those with the same number, nobody comes before it in the rotation
  none_before : (j k : ℕ) → j < k → k < n → place n a k ≡ least m p a → has m (place n a j) ≡ true → value (digits p) (least m p a) < value (digits p) (place n a j)
  none_before j k l k< e h = go (placed n a j a< (omega arith)) (placed n a k a< k<)
    where
      go : (a + j ≡ place n a j) ⊎ (a + j ≡ place n a j + n) → (a + k ≡ place n a k) ⊎ (a + k ≡ place n a k + n) → value (digits p) (least m p a) < value (digits p) (place n a j)
      go (inl u) (inl v) = none_below (place n a j) h (omega arith) (mask_past a (place n a j) (omega arith) ∙ sym (mask_past a (least m p a) (omega arith)))
      go (inl u) (inr v) =
          omega (arith, lowest_first.least (least m p a) (place n a j) is_left h, mask_past a (place n a j) (omega arith), mask_below a (least m p a) (omega arith))
      go (inr u) (inl v) = let lt : place n a k < n = mod-lt (a + k) (omega arith) in absurd (omega arith)
      go (inr u) (inr v) = none_below (place n a j) h (omega arith) (mask_below a (place n a j) (omega arith) ∙ sym (mask_below a (least m p a) (omega arith)))

  -- its turn in the rotation
  turn : (k : ℕ) × (k < n) × (place n a k ≡ least m p a)
  turn = go (dec_le a (least m p a))
    where
      c< : least m p a < n
      c< = inside (least m p a) least_in

      go : Dec (a ≤ least m p a) → (k : ℕ) × (k < n) × (place n a k ≡ least m p a)
      go (yes h) = (least m p a - a, omega (arith, c<), ap (λ y. y % n) (omega arith) ∙ mod-eq_of_lt c<)
      go (no h) = (least m p a + n - a, omega (arith, c<), ap (λ y. y % n) (omega arith) ∙ add-mod_right (least m p a) n ∙ mod-eq_of_lt c<)

  -- so it is the choice, where p is who is in m, and the numbers are one more than those of the planes
  pub least_is : (q : ℕ → Bool) (f : ℕ → ℕ) → ((x : ℕ) → x < n → q x ≡ has m x) → ((x : ℕ) → has m x ≡ true → f x ≡ value (digits p) x + 1)
      → least m p a ≡ choice q f n a
  least_is q f who number =
      let (k, k<, e) = turn in
      let c< : least m p a < n = inside (least m p a) least_in in
      let is : (j : ℕ) → q (place n a j) ≡ true → has m (place n a j) ≡ true = λ j h. sym (who (place n a j) (mod-lt (a + j) (omega arith))) ∙ h in
      sym
      (is_choice q f n a (least m p a) k e (who (least m p a) c< ∙ least_in)
      (λ j l h. omega (arith, none_before j k l k< e (is j h), number (least m p a) least_in, number (place n a j) (is j h)))
      (λ j l h. omega (arith, none_lower (place n a j) (is j h), number (least m p a) least_in, number (place n a j) (is j h)))
      (ap (λ x. x % n) (add-zero a) ∙ mod-eq_of_lt a<) k<)
