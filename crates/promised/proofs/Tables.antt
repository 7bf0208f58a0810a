-- A table's bytes hold what its sets hold.
use mathlib.Core.Path.{◌≡◌, refl, sym, ap, ◌∙◌}
use mathlib.Core.List.{List, []}
use Prim.Native.Nat.{ℕ, zero, suc, ◌*◌, ◌^◌, ◌≤◌, ◌<◌}
use native.Mathlib.Nat.{mul-le-mul_right}
use native.Mathlib.Decide.{dec_lt}
use native.Mathlib.Omega.{arith}
use lib.ListN.{length, get_or, take, drop, drop_of_length-le, get_or-eq_default}
use Rattle.laws.specs.Sets.{has, asks}
use Rattle.laws.specs.Bytes.{big_endian, number, number_from, row, field}
use Rattle.laws.proofs.Parts.{length_parts}
use Rattle.laws.proofs.Bytes.{length_big, field_row}
use Rattle.promised.specs.Share.{holds}

-- number i of a row, also beyond its end
field_of-row : (w : ℕ) (xs : List ℕ) → ((i : ℕ) → get_or xs i 0 < 256 ^ w) → (i : ℕ) → field w (row w xs) i ≡ get_or xs i 0
unfolding number_from
field_of-row w xs small i = go (dec_lt i (length xs))
  where
    nothing : (w : ℕ) → number (take w []) ≡ 0
    nothing zero = refl
    nothing (suc w) = refl

    go : Dec (i < length xs) → field w (row w xs) i ≡ get_or xs i 0
    go (yes h) = field_row w xs small i h
    go (no h) =
        let past : length xs ≤ i = omega arith in
        let long = length_parts (λ k. big_endian w (get_or xs k 0)) w (λ k. length_big w (get_or xs k 0)) (length xs) in
        let short : length (row w xs) ≤ i * w = rw long (mul-le-mul_right w past) in
        let none : drop (i * w) (row w xs) ≡ [] = drop_of_length-le (row w xs) short in
        ap (λ (l : List ℕ). number (take w l)) none ∙ nothing w ∙ sym (get_or-eq_default xs 0 past)

pub holds-asks : (xs : List ℕ) → ((i : ℕ) → get_or xs i 0 < 256 ^ 2) → (i t : ℕ) → holds (row 2 xs) i t ≡ asks xs i t
holds-asks xs small i t = ap (λ s. has s t) (field_of-row 2 xs small i)
