-- The library's bytes of a word, the high one first, are big-endian, and its words of bytes are the numbers that those are.
use mathlib.Core.Path.{◌≡◌, refl}
use mathlib.Core.List.{List, [], ◌∷◌}
use Prim.Native.Nat.{ℕ, ◌/◌}
use native.Mathlib.Omega.{arith}
use lib.ListN.{length}
use Rattle.std.specs.Int.{w16, w32, from_be_bytes, to_be_bytes}
use Rattle.laws.specs.Bytes.{big_endian, number, number_from}

pub two_bytes : (x : ℕ) → to_be_bytes w16 x ≡ big_endian 2 x
unfolding big_endian
two_bytes x = refl

pub four_bytes : (x : ℕ) → to_be_bytes w32 x ≡ big_endian 4 x
unfolding big_endian
four_bytes x =
    let two : x / 256 / 256 ≡ x / 65536 = omega arith in
    let three : x / 65536 / 256 ≡ x / 16777216 = omega arith in
    rw (two, three) refl

pub of_two : (a b : ℕ) → from_be_bytes w16 (a ∷ b ∷ []) ≡ number (a ∷ b ∷ [])
unfolding number_from
of_two a b = omega arith

pub of_four : (a b c d : ℕ) → from_be_bytes w32 (a ∷ b ∷ c ∷ d ∷ []) ≡ number (a ∷ b ∷ c ∷ d ∷ [])
unfolding number_from
of_four a b c d = omega arith

pub number_two : (s : List ℕ) → length s ≡ 2 → from_be_bytes w16 s ≡ number s
number_two [] long = absurd (omega arith)
number_two (a ∷ []) long = absurd (omega arith)
number_two (a ∷ b ∷ []) long = of_two a b
number_two (a ∷ b ∷ c ∷ s) long = absurd (omega arith)
