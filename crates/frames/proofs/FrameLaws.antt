-- Frames of any length and type: a list of bytes opens with 0 exactly if it is sealed, byte for byte.
use mathlib.Core.Path.{◌≡◌, refl, ap, ◌∙◌}
use mathlib.Core.Bool.{Bool, true, false, not, cond}
use mathlib.Core.List.{List, ◌∷◌}
use Prim.Native.Nat.{ℕ, zero, suc, ◌+◌, ◌-◌, ◌≤◌, ◌<◌}
use native.Mathlib.Omega.{arith}
use borrow.Author.Tests.{eq-eqb, eqb-true}
use lib.Dec.{eqb, eqb-suc-zero}
use lib.ListN.{length, get_or, take, drop, length-drop}
use lib.Seq.{length-take-le, take_at, drop-cons}
use Rattle.laws.specs.Bytes.{Bytes}
use Rattle.laws.proofs.Bytes.{bytes_drop, bytes_take}
use Rattle.words.specs.Check.{checked, front, intact}
use Rattle.words.proofs.CheckLaws.{length_checked, checked-intact, intact-checked}
use Rattle.frames.specs.Frame.{sealed, body_of, form_number, formed_number, answered, room_number, written}

pub length_sealed : (type : ℕ) (body : List ℕ) → length (sealed type body) ≡ length body + 3
length_sealed type body = length_checked (type ∷ body) ∙ omega arith

-- what opens with 0 has passed the three tests
pub record Sound (len type : ℕ) (s : List ℕ) : Type 0 where
  pub long : length s ≡ len
  pub typed : get_or s 0 0 ≡ type
  pub checks : intact s ≡ true

passed : (a b c : Bool) → ◌≡◌ {A = ℕ} (cond (not a) 8 (cond (not b) 9 (cond c 0 10))) 0 → (a ≡ true) × (b ≡ true) × (c ≡ true)
passed true true true e = (refl, refl, refl)
passed true true false e = absurd (omega arith)
passed true false c e = absurd (omega arith)
passed false b c e = absurd (omega arith)

pub sound : (len type : ℕ) (s : List ℕ) → form_number len type s ≡ 0 → Sound len type s
unfolding form_number
sound len type s e =
    let p = passed (eqb (length s) len) (eqb (get_or s 0 0) type) (intact s) e in
    record { long = eqb-true _ _ p.0; typed = eqb-true _ _ p.1; checks = p.2 }

-- number 0 is neither 8 to 10 nor 11
pub formed_zero : (len type : ℕ) (in_form : List ℕ → Bool) (s : List ℕ) → formed_number len type in_form s ≡ 0 → (form_number len type s ≡ 0) × (in_form (body_of len s) ≡ true)
formed_zero len type in_form s = go (form_number len type s) (in_form (body_of len s))
  where
    go : (k : ℕ) (ok : Bool) → cond (eqb k 0) (cond ok 0 11) k ≡ 0 → (k ≡ 0) × (ok ≡ true)
    go zero true e = (refl, refl)
    go zero false e = absurd (omega arith)
    go (suc k) ok e = let z : suc k ≡ 0 = rw (eqb-suc-zero k) at e in absurd (omega arith)

-- what is sealed opens with 0, and its body is what was sealed
module _ (len type : ℕ) (body : List ℕ) (long : length body + 3 ≡ len) where
  pub form-sealed : form_number len type (sealed type body) ≡ 0
  unfolding form_number
  form-sealed = rw (eq-eqb _ _ (length_sealed type body ∙ long), eq-eqb type type refl, checked-intact (type ∷ body))

  pub body_sealed : body_of len (sealed type body) ≡ body
  body_sealed = take_at body _ (len - 3) (omega arith)

-- what opens with 0 is its body, sealed
pub sealed-form : (len type : ℕ) (s : List ℕ) → 3 ≤ len → Bytes s → form_number len type s ≡ 0 → s ≡ sealed type (body_of len s)
sealed-form len type s least bytes e =
    let h = sound len type s e in
    let some : 0 < length s = omega arith in
    let more : length s - 2 ≡ suc (len - 3) = omega arith in
    let typed : front s ≡ type ∷ body_of len s = rw more (ap (take (suc (len - 3))) (drop-cons s 0 0 some) ∙ rw h.typed) in
    intact-checked s bytes h.checks ∙ ap checked typed

pub body_bytes : (len : ℕ) (s : List ℕ) → Bytes s → Bytes (body_of len s)
body_bytes len s bytes = bytes_take (len - 3) (drop 1 s) (bytes_drop 1 s bytes)

pub body_long : (len : ℕ) (s : List ℕ) → length s ≡ len → length (body_of len s) ≡ len - 3
body_long len s long = length-take-le (len - 3) (drop 1 s) (simp length-drop (omega arith))

-- the fields of a reader's answer with number 0 are what was read
pub answered_zero : {A : Type 0} (k : ℕ) (x z f : A) → answered k x z ≡ record { number = 0; fields = f } → (k ≡ 0) × (x ≡ f)
answered_zero k x z f e =
    let none : k ≡ 0 = ap (λ a. a.number) e in
    (none, rw none at (ap (λ a. a.fields) e))

-- what a writer leaves that puts a frame of len bytes
pub put_frame : (len number : ℕ) (made frame out last : List ℕ) → made ≡ frame → length frame ≡ len
    → (number ≡ room_number (length made) out) × (last ≡ written number (length made) made out)
    → (number ≡ room_number len out) × (last ≡ written (room_number len out) len frame out)
put_frame len number made frame out last is long (told, left) =
    let room : number ≡ room_number len out = rw (is, long) at told in
    (room, rw (is, long, room) at left)

-- a writer that answers 0 wrote the frame
pub written_zero : (k len : ℕ) (frame out : List ℕ) → k ≡ 0 → length frame ≡ len → take len (written k len frame out) ≡ frame
unfolding written
written_zero k len frame out none long = rw none (take_at frame (drop len out) len long)
