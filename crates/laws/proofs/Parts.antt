-- A part is told by any front that holds it. Parts of one width w, one after the other: each stands in its own place, and is written there.
use mathlib.Core.Path.{◌≡◌, refl, sym, ap, ◌∙◌}
use mathlib.Core.Logic.{⊎_elim}
use mathlib.Core.List.{List, [], ◌∷◌, ◌++◌, append_assoc}
use Prim.Native.Nat.{ℕ, zero, suc, ◌+◌, ◌*◌, ◌-◌, ◌≤◌, ◌<◌}
use native.Mathlib.Nat.{le_refl, le_of_eq, le_of_suc-le-suc, not-suc-le-zero, eq-or-lt_of_le, mul-le-mul_right, zero-mul, suc-mul}
use native.Mathlib.Numerals.{add-one}
use native.Mathlib.Omega.{arith}
use lib.ListN.{length, take, drop, take-append-drop, length-append, length-drop}
use lib.Seq.{take_all, take-take, take_at, drop_at, drop-drop, take-append-le, drop-append-le}
use borrow.Rule.Slice.PartMut.{mid_of, post_of, put_mid, mid_len}
use Rattle.laws.specs.Steps.{steps}
use Rattle.laws.specs.Parts.{part, parts}

pub part_own : (at w e : ℕ) (s : List ℕ) → at + w ≤ e → part at w (take e s) ≡ part at w s
part_own zero w e s h = take-take w e s (omega arith)
part_own (suc at) w zero s h = absurd (omega arith)
part_own (suc at) w (suc e) [] h = refl
part_own (suc at) w (suc e) (b ∷ s) h = part_own at w e s (omega arith)

module _ (f : ℕ → List ℕ) (w : ℕ) (each : (i : ℕ) → length (f i) ≡ w) where
  pub length_parts : (n : ℕ) → length (parts f n) ≡ n * w
  unfolding steps
  length_parts zero = sym (zero-mul w)
  length_parts (suc n) = length-append (parts f n) (f n) ∙ rw (length_parts n, each n) (sym (suc-mul n w))

  -- what follows the parts moves none of them
  pub part_before : (n i : ℕ) (rest : List ℕ) → i < n → take w (drop (i * w) (parts f n ++ rest)) ≡ take w (drop (i * w) (parts f n))
  part_before n i rest l =
      let within : suc i * w ≤ n * w = mul-le-mul_right w l in
      let whole = length_parts n in
      let start : i * w ≤ length (parts f n) = omega (arith, suc-mul i w) in
      let room : w ≤ length (drop (i * w) (parts f n)) = simp length-drop (omega (arith, suc-mul i w)) in
      rw (drop-append-le (i * w) (parts f n) rest start, take-append-le w (drop (i * w) (parts f n)) rest room)

  pub part_at : (n i : ℕ) → i < n → take w (drop (i * w) (parts f n)) ≡ f i
  unfolding steps
  part_at zero i h = absurd (not-suc-le-zero h)
  part_at (suc n) i h = ⊎_elim
      (λ e. rw e (ap (take w) (drop_at (parts f n) (f n) (n * w) (length_parts n)) ∙ take_all w (f n) (le_of_eq (each n))))
      (λ l. part_before n i (f n) l ∙ part_at n i l)
      (eq-or-lt_of_le (le_of_suc-le-suc h))

  -- part i, written at the front of what is left of the slice o from its place on
  pub next-part : (i : ℕ) (out o last : List ℕ) → out ≡ parts f i ++ drop (i * w) o → i * w + w ≤ length out
      → last ≡ f i ++ drop w (mid_of (i * w) (length out - i * w) out)
      → put_mid (i * w) (length out - i * w) out last ≡ parts f (i + 1) ++ drop ((i + 1) * w) o
  unfolding steps
  next-part i out o last is room wrote =
      let a = i * w in
      let k = length out - a in
      let fits : w ≤ length (mid_of a k out) = omega (arith, mid_len a (length out) out (le_refl (length out))) in
      rw (wrote, add-one i, suc-mul i w)
      (ap (λ (l : List ℕ). take a out ++ l)
      (append_assoc (f i) _ _ ∙ ap (λ (l : List ℕ). f i ++ l) (sym (drop-append-le w (mid_of a k out) (post_of a k out) fits) ∙ ap (drop w) (take-append-drop k (drop a out))))
      ∙ rw (is, take_at (parts f i) (drop a o) a (length_parts i), drop_at (parts f i) (drop a o) a (length_parts i), drop-drop, append_assoc))
