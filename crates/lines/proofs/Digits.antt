-- The fewest digits that hold a number are its decimal.
use mathlib.Core.Path.{◌≡◌, sym}
use Prim.Native.Nat.{ℕ, zero, suc, ◌+◌, ◌/◌, ◌%◌, ◌^◌, ◌≤◌, ◌<◌}
use native.Mathlib.Nat.{pow-suc, mod-lt}
use native.Mathlib.Numerals.{unary_clauses}
use native.Mathlib.Omega.{arith}
use lib.Dec.{lit<}
use borrow.Author.Tests.{lt-ltb, le-ltb}
use Rattle.io.specs.Digits.{hex_digit_ascii, last_digits, IsDigitCount}
use Rattle.lines.specs.Line.{decimal_in, decimal}

digit : (d : ℕ) → d < 10 → hex_digit_ascii d ≡ 48 + d
digit d h = rw (lt-ltb d 10 h)

below_power : (k : ℕ) → k < 10 ^ k
below_power zero = lit< tt
below_power (suc k) = rw pow-suc (omega (arith, below_power k))

fewest_are : (k w x : ℕ) → k < w → x < 10 ^ suc k → (0 < k → 10 ^ k ≤ x) → decimal_in w x ≡ last_digits 10 (suc k) x
unfolding decimal_in
fewest_are k zero x h l g = absurd (omega arith)
fewest_are zero (suc w) x h l g =
    let small : x < 10 = rw pow-suc at l in
    let same : x % 10 ≡ x = omega arith in
    rw (lt-ltb x 10 small, same, digit x small)
fewest_are (suc k) (suc w) x h l g =
    let most = g (omega arith) in
    let ten : 10 ≤ x = omega (arith, pow-suc 10 k, below_power k) in
    let less : x / 10 < 10 ^ suc k = omega (arith, pow-suc 10 (suc k)) in
    let more : 0 < k → 10 ^ k ≤ x / 10 = λ some. omega (arith, pow-suc 10 k) in
    rw (le-ltb x 10 ten, fewest_are k w (x / 10) (omega arith) less more, digit (x % 10) (mod-lt x (lit< tt)))

pub fewest : (k x : ℕ) → IsDigitCount 10 1 x k → last_digits 10 k x ≡ decimal x
unfolding decimal
fewest zero x f = absurd (omega (arith, f.0))
fewest (suc k) x f =
    let least : 0 < k → 10 ^ k ≤ x = λ some. (simp unary_clauses at (f.2 (omega arith))) in
    sym (fewest_are k (suc x) x (room k least) f.1 least)
  where
    room : (k : ℕ) → (0 < k → 10 ^ k ≤ x) → k < suc x
    room zero least = omega arith
    room (suc k) least = omega (arith, least (omega arith), below_power (suc k))
