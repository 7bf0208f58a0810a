-- Three flags, to a number and back.
use mathlib.Core.Path.{◌≡◌, refl}
use mathlib.Core.Bool.{Bool, true, false}
use Prim.Native.Nat.{ℕ, zero, suc, ◌/◌, ◌%◌, ◌<◌, ◌≤◌}
use native.Mathlib.Omega.{arith}
use borrow.Author.Tests.{leb-true}
use lib.Dec.{eqb}
use Rattle.laws.specs.Sets.{has}
use Rattle.frames.specs.Flags.{bit, flags, zeros_above}

pub flags_read : (a b c : Bool) → (zeros_above (flags a b c) ≡ true) × (has (flags a b c) 0 ≡ a) × (has (flags a b c) 1 ≡ b) × (has (flags a b c) 2 ≡ c)
flags_read true true true = (refl, refl, refl, refl)
flags_read true true false = (refl, refl, refl, refl)
flags_read true false true = (refl, refl, refl, refl)
flags_read true false false = (refl, refl, refl, refl)
flags_read false true true = (refl, refl, refl, refl)
flags_read false true false = (refl, refl, refl, refl)
flags_read false false true = (refl, refl, refl, refl)
flags_read false false false = (refl, refl, refl, refl)

bit_eqb : (x : ℕ) → x < 2 → bit (eqb x 1) ≡ x
bit_eqb zero h = refl
bit_eqb (suc zero) h = refl
bit_eqb (suc (suc x)) h = omega arith

pub flags-written : (f : ℕ) → zeros_above f ≡ true → flags (has f 0) (has f 1) (has f 2) ≡ f
flags-written f e =
    let h : f ≤ 7 = leb-true f 7 e in
    rw (bit_eqb (f / 1 % 2) (omega arith), bit_eqb (f / 2 % 2) (omega arith), bit_eqb (f / 4 % 2) (omega arith)) (omega arith)
