-- The one, two and four bytes that stand from a place on, one by one.
use mathlib.Core.Path.{◌≡◌, ◌∙◌}
use mathlib.Core.List.{List, [], ◌∷◌}
use Prim.Native.Nat.{ℕ, suc, ◌+◌, ◌≤◌, ◌<◌}
use native.Mathlib.Nat.{add_assoc}
use native.Mathlib.Numerals.{add-one}
use native.Mathlib.Omega.{arith}
use lib.ListN.{length, get_or, take, drop}
use lib.Seq.{drop-cons, take-add, drop-drop}

pub one_at : (s : List ℕ) (at : ℕ) → at + 1 ≤ length s → take 1 (drop at s) ≡ get_or s at 0 ∷ []
one_at s at h =
    let first : at < length s = omega arith in
    rw (drop-cons s at 0 first)

pub two_at : (s : List ℕ) (at : ℕ) → at + 2 ≤ length s → take 2 (drop at s) ≡ get_or s at 0 ∷ get_or s (at + 1) 0 ∷ []
two_at s at h =
    let first : at < length s = omega arith in
    let second : suc at < length s = omega arith in
    rw (add-one, drop-cons s at 0 first, drop-cons s (suc at) 0 second)

pub four_at : (s : List ℕ) (at : ℕ) → at + 4 ≤ length s
    → take 4 (drop at s) ≡ get_or s at 0 ∷ get_or s (at + 1) 0 ∷ get_or s (at + 2) 0 ∷ get_or s (at + 3) 0 ∷ []
four_at s at h =
    take-add 2 2 (drop at s) ∙ rw (drop-drop, two_at s at (omega arith), two_at s (at + 2) (omega arith), add_assoc)
