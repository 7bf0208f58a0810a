-- Lists one after the other, and a part of a row of parts that is put anew.
use mathlib.Core.Path.{◌≡◌, refl, ap, ◌∙◌}
use mathlib.Core.Logic.{⊎_elim}
use mathlib.Core.List.{List, [], ◌∷◌, ◌++◌, append-nil, map, map-append}
use Prim.Native.Nat.{ℕ, zero, suc, ◌+◌, ◌*◌, ◌≤◌, ◌<◌}
use native.Mathlib.Nat.{le_of_suc-le-suc, eq-or-lt_of_le, not-suc-le-zero, mul-le-mul_right, suc-mul}
use native.Mathlib.Numerals.{add-one}
use native.Mathlib.Omega.{arith}
use lib.ListN.{length, drop, length-append, drop_of_length-le, get_or-append}
use lib.Seq.{get_or_at, take_at, drop-append-add}
use Rattle.laws.specs.Steps.{steps}
use Rattle.laws.specs.Parts.{parts}
use Rattle.laws.proofs.Loops.{same_steps}
use Rattle.laws.proofs.Parts.{length_parts}
use Rattle.import_steps.specs.Laying.{over}
use Rattle.import_steps.proofs.Over.{over_before, over-behind}
use Rattle.imports.specs.Cut.{joined}

pub length_snoc : {A : Type 0} (xs : List A) (x : A) → length (xs ++ (x ∷ [])) ≡ suc (length xs)
length_snoc xs x = length-append xs (x ∷ []) ∙ add-one (length xs)

pub joined_none : joined [] ≡ []
unfolding joined steps
joined_none = refl

pub joined_snoc : (xs : List (List ℕ)) (x : List ℕ) → joined (xs ++ (x ∷ [])) ≡ joined xs ++ x
unfolding joined steps
joined_snoc xs x =
    rw (length_snoc xs x, get_or_at xs x [] [] (length xs) refl)
    (ap (λ (l : List ℕ). l ++ x) (same_steps _ _ [] (length xs) (λ k u l. ap (λ (z : List ℕ). u ++ z) (get_or-append xs (x ∷ []) [] k l))))

pub joined_map : {A : Type 0} (f : A → List ℕ) (xs : List A) (x : A) → joined (map f (xs ++ (x ∷ []))) ≡ joined (map f xs) ++ f x
joined_map f xs x = rw (map-append f xs (x ∷ [])) (joined_snoc (map f xs) (f x))

-- part h of parts of one width w put anew
module _ (f g : ℕ → List ℕ) (w : ℕ) (each : (i : ℕ) → length (f i) ≡ w) (x : List ℕ) (long : length x ≡ w) where
  over_last : (p q : List ℕ) (at : ℕ) → length p ≡ at → length q ≡ w → over at x (p ++ q) ≡ p ++ x
  unfolding over
  over_last p q at e l =
      let none : drop (length x) q ≡ [] = drop_of_length-le q {i = length x} (omega arith) in
      rw (take_at p q at e, ← e, drop-append-add p q (length x), none, append-nil)

  pub put_part : (n h : ℕ) → h < n → g h ≡ x → ((i : ℕ) → (i ≡ h → ⊥) → g i ≡ f i) → over (h * w) x (parts f n) ≡ parts g n
  unfolding steps
  put_part zero h l at others = absurd (not-suc-le-zero l)
  put_part (suc n) h l at others = ⊎_elim
      (λ e.
      let same : parts g n ≡ parts f n = same_steps _ _ [] n (λ i u b. ap (λ (z : List ℕ). u ++ z) (others i (λ q. omega arith))) in
      rw (same, ← e, at) (over_last (parts f h) (f h) (h * w) (length_parts f w each h) (each h)))
      (λ b.
      let inside : suc h * w ≤ n * w = mul-le-mul_right w b in
      let whole = length_parts f w each n in
      let room : h * w + length x ≤ length (parts f n) = omega (arith, suc-mul h w) in
      over_before (h * w) x (parts f n) room (f n) ∙ rw (put_part n h b at others, others n (λ q. omega arith)))
      (eq-or-lt_of_le (le_of_suc-le-suc l))

  -- among other bytes
  pub put_among : (n h at : ℕ) (p rest : List ℕ) → length p ≡ at → h < n → g h ≡ x → ((i : ℕ) → (i ≡ h → ⊥) → g i ≡ f i)
      → over (at + h * w) x (p ++ (parts f n ++ rest)) ≡ p ++ (parts g n ++ rest)
  put_among n h at p rest e l is others =
      let inside : suc h * w ≤ n * w = mul-le-mul_right w l in
      let whole = length_parts f w each n in
      let room : h * w + length x ≤ length (parts f n) = omega (arith, suc-mul h w) in
      rw (← e, over-behind p (h * w) x (parts f n ++ rest), over_before (h * w) x (parts f n) room rest, put_part n h l is others)
