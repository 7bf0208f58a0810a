-- The ends of a call that writes the bytes s, len many, of what it is given: that does not fit; the output is too short; it is done. And what the
-- answer 0 says.
use mathlib.Core.Path.{◌≡◌, refl, sym, ◌∙◌}
use mathlib.Core.Bool.{Bool, true, false, cond}
use mathlib.Core.List.{List, ◌++◌}
use Prim.Native.Nat.{ℕ, ◌≤◌, ◌<◌}
use native.Mathlib.Omega.{arith}
use lib.ListN.{length, take, drop}
use lib.Seq.{take_at}
use borrow.Author.Tests.{lt-ltb, le-ltb}
use Rattle.frames.specs.Frame.{room_number, written}
use Rattle.lent.specs.Writer.{writer_number}

module _ (fits : Bool) (len : ℕ) (s out : List ℕ) where
  -- the promise of a call that answers so and leaves that
  abbrev Ends : ℕ → List ℕ → Type 0
  Ends number left = (number ≡ writer_number fits len out) × (left ≡ written (writer_number fits len out) len s out)

  pub unfit : fits ≡ false → Ends 14 out
  unfolding writer_number written
  unfit e = rw e (refl, refl)

  pub short : fits ≡ true → length out < len → Ends 7 out
  unfolding writer_number room_number written
  short e h = rw (e, lt-ltb _ _ h) (refl, refl)

  pub wrote : fits ≡ true → len ≤ length out → (left : List ℕ) → left ≡ s ++ drop len out → Ends 0 left
  unfolding writer_number room_number written
  wrote e h left is = rw (e, le-ltb _ _ h) (refl, is)

  -- what was given fitted, and was written
  pub fitted : writer_number fits len out ≡ 0 → fits ≡ true
  unfolding writer_number
  fitted e = go fits e
    where
      go : (b : Bool) → cond b (room_number len out) 14 ≡ 0 → b ≡ true
      go true z = refl
      go false z = absurd (omega arith)

  pub front : length s ≡ len → writer_number fits len out ≡ 0 → take len (written (writer_number fits len out) len s out) ≡ s
  unfolding written
  front long e = rw e (take_at s (drop len out) len long)

  -- what fits, and is the bytes t, is written as these
  pub written_back : (t : List ℕ) → fits ≡ true → s ≡ t → length t ≡ len → length t ≤ length out
      → (writer_number fits len out ≡ 0) × (written (writer_number fits len out) len s out ≡ t ++ drop (length t) out)
  written_back t e same long room = let (done, left) = wrote e (rw long at room) _ refl in (sym done, sym left ∙ rw (same, long))
