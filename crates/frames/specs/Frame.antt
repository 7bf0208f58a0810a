-- What every frame shares: type, body and check; and the numbers 7 to 11.
use Rattle.std.specs.Prelude.{ℕ, ◌-◌, Bool, not, cond, List, ◌∷◌, ◌++◌, eqb, ltb, length, get_or, drop}
use Rattle.laws.specs.Parts.{part}
use Rattle.words.specs.Check.{checked, intact}
use Rattle.refusals.specs.Numbers.{Answer}

abbrev pub differs : ℕ → ℕ → Bool
differs a b = not (eqb a b)

abbrev pub sealed : ℕ → List ℕ → List ℕ
sealed type body = checked (type ∷ body)

-- what stands between type and check in a frame of len bytes
abbrev pub body_of : ℕ → List ℕ → List ℕ
body_of len s = part 1 (len - 3) s

-- is s a frame of len bytes and of that type: 0, or the first of 8 to 10 that applies
unfoldable pub form_number : ℕ → ℕ → List ℕ → ℕ
form_number len type s =
    cond (differs (length s) len) 8
    (cond (differs (get_or s 0 0) type) 9
    (cond (intact s) 0 10))

-- and then 11, if the body of such a frame is not in form
abbrev pub formed_number : ℕ → ℕ → (List ℕ → Bool) → List ℕ → ℕ
formed_number len type in_form s =
    cond (eqb (form_number len type s) 0)
    (cond (in_form (body_of len s)) 0 11)
    (form_number len type s)

-- zeros where it declines
abbrev pub answered : {A : Type 0} → ℕ → A → A → Answer A
answered number fields zeros = record { number = number; fields = cond (eqb number 0) fields zeros }

-- what a writer answers to an output that must hold len bytes
unfoldable pub room_number : ℕ → List ℕ → ℕ
room_number len out = cond (ltb (length out) len) 7 0

-- what the output then holds: a frame of len bytes and what was beyond it, or what it held where the writer declines
unfoldable pub written : ℕ → ℕ → List ℕ → List ℕ → List ℕ
written number len frame out = cond (eqb number 0) (frame ++ drop len out) out
