-- A set of numbers below n is a word below 2 ^ n.
use mathlib.Core.Path.{◌≡◌}
use mathlib.Core.Bool.{true}
use Prim.Native.Nat.{ℕ, zero, suc, ◌/◌, ◌%◌, ◌^◌, ◌<◌}
use native.Mathlib.Nat.{div-lt_iff_lt-mul, pow-suc, one-mul}
use native.Mathlib.Decide.{dec_lt}
use native.Mathlib.Omega.{arith}
use lib.Pow.{pow_pos, pow_mono}
use borrow.Author.Tests.{eq-eqb}
use Rattle.laws.specs.Sets.{has}

pub below_power : (s : ℕ) → s < 2 ^ s
below_power zero = pow_pos 0
below_power (suc s) = omega (arith, below_power s, pow-suc 2 s)

small_from : (n s w : ℕ) → s < 2 ^ w → ((k : ℕ) → has s k ≡ true → k < n) → s < 2 ^ n
small_from n s zero h bits = omega (arith, pow_pos n)
small_from n s (suc w) h bits = go (dec_lt w n) (λ less. small_from n s w less bits)
  where
    go : Dec (w < n) → (s < 2 ^ w → s < 2 ^ n) → s < 2 ^ n
    go (yes l) rest = omega (arith, pow_mono l)
    go (no l) rest =
        let two : s / 2 ^ w < 2 = (div-lt_iff_lt-mul (pow_pos w)).1 (omega (arith, pow-suc 2 w)) in
        let none : s / 2 ^ w % 2 ≡ 1 → ⊥ = λ e. l (bits w (eq-eqb _ 1 e)) in
        let less : s / 2 ^ w < 1 = omega arith in
        rest (rw one-mul at ((div-lt_iff_lt-mul (pow_pos w)).0 less))

pub small : (n s : ℕ) → ((k : ℕ) → has s k ≡ true → k < n) → s < 2 ^ n
small n s = small_from n s s (below_power s)
