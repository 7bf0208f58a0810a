-- Numbers in bytes, one after the other: each reads back, and each that is read is written back. And lists of numbers, one by one.
use mathlib.Core.Path.{◌≡◌, refl, sym, ap, ◌∙◌}
use mathlib.Core.Logic.{⊎_elim}
use mathlib.Core.List.{List, [], ◌∷◌, ◌++◌}
use Prim.Native.Nat.{ℕ, zero, suc, ◌+◌, ◌*◌, ◌^◌, ◌≤◌, ◌<◌}
use native.Mathlib.Nat.{zero-mul, suc-mul, le_of_suc-le-suc, eq-or-lt_of_le, not-suc-le-zero}
use native.Mathlib.Omega.{arith}
use lib.ListN.{length, get_or, take, drop, length-append, get_or-append, length-drop}
use lib.Seq.{take_at, drop_at, drop-drop, take-add, get_or_at}
use Rattle.laws.specs.Steps.{steps}
use Rattle.laws.specs.Parts.{part, parts}
use Rattle.laws.specs.Bytes.{Bytes, big_endian, number_at}
use Rattle.laws.proofs.Bytes.{length_big, number_big, big_number, bytes_drop}
use Rattle.trace_writer.specs.Parts.{listed}

-- a number at a place, and what follows it
module _ (w x at : ℕ) (s q : List ℕ) (here : drop at s ≡ big_endian w x ++ q) where
  pub number_at_lem : x < 256 ^ w → number_at w at s ≡ x
  number_at_lem small = rw (here, take_at (big_endian w x) q w (length_big w x)) (number_big w x small)

  pub after : drop (at + w) s ≡ q
  after = sym (drop-drop w at s) ∙ ap (drop w) here ∙ drop_at (big_endian w x) q w (length_big w x)

-- bytes that are read as a number are that number's bytes
pub number_there : (w at : ℕ) (s : List ℕ) → Bytes s → at + w ≤ length s → big_endian w (number_at w at s) ≡ part at w s
number_there w at s bytes h = big_number (drop at s) (bytes_drop at s bytes) w (rw length-drop (omega arith))

-- two parts that meet are one
pub part_add : (at a b : ℕ) (s : List ℕ) → part at a s ++ part (at + a) b s ≡ part at (a + b) s
part_add at a b s = ap (λ (l : List ℕ). part at a s ++ take b l) (sym (drop-drop a at s)) ∙ sym (take-add a b (drop at s))

-- equal parts, one after the other
pub parts-of : (w : ℕ) (s : List ℕ) (n : ℕ) → parts (λ i. part (i * w) w s) n ≡ take (n * w) s
unfolding steps
parts-of w s zero = rw (zero-mul w)
parts-of w s (suc n) = rw (parts-of w s n, suc-mul n w) (sym (take-add (n * w) w s))

-- a list of numbers
module _ (f : ℕ → ℕ) where
  pub length_listed : (n : ℕ) → length (listed f n) ≡ n
  unfolding steps
  length_listed zero = refl
  length_listed (suc n) = length-append (listed f n) (f n ∷ []) ∙ rw (length_listed n) (omega arith)

  pub get_d_listed : (n k : ℕ) → k < n → get_or (listed f n) k 0 ≡ f k
  unfolding steps
  get_d_listed zero k h = absurd (not-suc-le-zero h)
  get_d_listed (suc n) k h = ⊎_elim
      (λ e. rw e (get_or_at (listed f n) (f n) [] 0 n (length_listed n)))
      (λ l. get_or-append (listed f n) (f n ∷ []) 0 k (omega (arith, length_listed n)) ∙ get_d_listed n k l)
      (eq-or-lt_of_le (le_of_suc-le-suc h))
