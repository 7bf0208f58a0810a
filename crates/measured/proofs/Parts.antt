-- The checks of one part of nine bytes after the other.
use mathlib.Core.Path.{◌≡◌, refl, sym, ap, ◌∙◌}
use mathlib.Core.List.{List}
use Prim.Native.Nat.{ℕ, zero, suc, ◌+◌, ◌*◌}
use native.Mathlib.Nat.{add-zero, zero-add}
use native.Mathlib.Numerals.{add-one}
use native.Mathlib.Omega.{arith}
use lib.Bits.{bit_xor}
use lib.ListN.{take, drop}
use lib.Seq.{drop-drop}
use Rattle.std.specs.Prelude.{fold}
use Rattle.std.specs.Simd.{first_chunks}
use Rattle.laws.specs.Steps.{steps}
use Rattle.measured.specs.Checks.{checks_of, checks_to}

abbrev summed : ℕ → List ℕ → ℕ
summed sum part = bit_xor sum (checks_of part)

further : (s : List ℕ) (n h x : ℕ) → x ≡ checks_to s h → fold summed x (first_chunks 9 n (drop (h * 9) s)) ≡ checks_to s (h + n)
unfolding steps
further s zero h x e = e ∙ ap (checks_to s) (sym (add-zero h))
further s (suc n) h x e =
    let part = take 9 (drop (h * 9) s) in
    let next : h * 9 + 9 ≡ (h + 1) * 9 = omega arith in
    let all : h + 1 + n ≡ h + suc n = omega arith in
    ap (λ (u : List ℕ). fold summed (summed x part) (first_chunks 9 n u)) (drop-drop 9 (h * 9) s ∙ ap (λ (k : ℕ). drop k s) next)
    ∙ further s n (h + 1) (summed x part) (rw (add-one h, e) refl) ∙ ap (checks_to s) all

pub all_parts : (s : List ℕ) (n : ℕ) → fold summed 0 (first_chunks 9 n s) ≡ checks_to s n
unfolding steps
all_parts s n = further s n 0 0 refl ∙ ap (checks_to s) (zero-add n)
