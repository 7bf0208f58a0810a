-- The bytes between type and check of a frame that is read.
use mathlib.Core.Path.{◌≡◌, refl, sym, ap, ◌∙◌}
use mathlib.Core.Bool.{Bool}
use mathlib.Core.List.{List}
use Prim.Native.Nat.{ℕ, ◌-◌, ◌≤◌}
use native.Mathlib.Omega.{arith}
use lib.ListN.{length, take, drop}
use Rattle.frames.specs.Frame.{body_of, formed_number}
use Rattle.frames.proofs.FrameLaws.{sound, formed_zero}
use Rattle.std.specs.Prelude.{Result}
use Rattle.refusals.specs.Numbers.{Answer, number_of, answer_of}
use Rattle.refusals.specs.declared.Refusal.{Refusal}
use Rattle.refusals.proofs.Unique.{number_told}

-- the part of the frame that is shown
pub shown : (len : ℕ) (frame : List ℕ) → 3 ≤ len → take (len - 2 - 1) (drop 1 frame) ≡ body_of len frame
shown len frame three =
    let less : len - 2 - 1 ≡ len - 3 = omega arith in
    rw less refl

-- a frame that is read has its length
pub formed_length : (len type : ℕ) (in_form : List ℕ → Bool) (s : List ℕ) → formed_number len type in_form s ≡ 0 → length s ≡ len
formed_length len type in_form s e = (sound len type s (formed_zero len type in_form s e).0).long

-- the number of a reader that answers so
pub told : {A : Type 0} (zeros : A) (read : Result A Refusal) (answer : Answer A) → answer_of zeros read ≡ answer → number_of read ≡ answer.number
told zeros read answer is = sym (number_told zeros read) ∙ ap (λ a. a.number) is
