-- The numbers that planes hold, for any number of planes.
use mathlib.Core.Path.{◌≡◌, ap, ◌∙◌}
use mathlib.Core.List.{List, [], ◌∷◌}
use Prim.Native.Nat.{ℕ, suc, ◌+◌, ◌*◌, ◌%◌, ◌^◌, ◌<◌}
use native.Mathlib.Nat.{pow-suc, mul_comm, mul_assoc}
use native.Mathlib.Omega.{arith}
use lib.Bits.{bit_and, bit_xor}
use lib.ListN.{length}
use Rattle.laws.specs.Sets.{digit}
use Rattle.columns.specs.Planes.{value, plus, minus, digits, more, less}
use Rattle.columns.specs.declared.planes.Planes.{Planes}
use Rattle.columns.proofs.Digits.{digit_lt, adds, takes}

doubled : (n d : ℕ) → 2 ^ suc n * d ≡ 2 * (2 ^ n * d)
doubled n d = ap (λ z. z * d) (pow-suc 2 n ∙ mul_comm (2 ^ n) 2) ∙ mul_assoc 2 (2 ^ n) d

value_below : (ps : List ℕ) (i : ℕ) → value ps i < 2 ^ length ps
unfolding value
value_below [] i = omega arith
value_below (p ∷ ps) i = omega (arith, digit_lt p i, value_below ps i, pow-suc 2 (length ps))

-- what goes over the highest plane, and what is borrowed beyond it
unfoldable over : List ℕ → ℕ → ℕ
over [] x = x
over (p ∷ ps) x = over ps (bit_and p x)

unfoldable beyond : List ℕ → ℕ → ℕ
beyond [] x = x
beyond (p ∷ ps) x = beyond ps (bit_and x (bit_xor p x))

value-over : (ps : List ℕ) (x i : ℕ) → value (plus ps x) i + 2 ^ length ps * digit (over ps x) i ≡ value ps i + digit x i
unfolding value plus over
value-over [] x i = omega arith
value-over (p ∷ ps) x i =
    omega (arith, adds p x i, value-over ps (bit_and p x) i, doubled (length ps) (digit (over ps (bit_and p x)) i))

value_beyond : (ps : List ℕ) (x i : ℕ) → value (minus ps x) i + digit x i ≡ value ps i + 2 ^ length ps * digit (beyond ps x) i
unfolding value minus beyond
value_beyond [] x i = omega arith
value_beyond (p ∷ ps) x i =
    let c = bit_and x (bit_xor p x) in
    omega (arith, takes p x i, value_beyond ps c i, doubled (length ps) (digit (beyond ps c) i))

-- of four planes
module _ (p : Planes) (i : ℕ) where
  pub number_lt : value (digits p) i < 16
  number_lt = value_below (digits p) i

module _ (p : Planes) (x i : ℕ) where
  pub number_more : value (digits (more p x)) i ≡ (value (digits p) i + digit x i) % 16
  unfolding more plus
  number_more = omega (arith, value-over (digits p) x i, value_below (plus (digits p) x) i)

  pub number-less : (value (digits (less p x)) i + digit x i) % 16 ≡ value (digits p) i
  unfolding less minus
  number-less = omega (arith, value_beyond (digits p) x i, value_below (digits p) i)
