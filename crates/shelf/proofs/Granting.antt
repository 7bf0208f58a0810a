-- One grant frame more in the output of a shelf of n ports.
use mathlib.Core.Path.{◌≡◌, refl, ◌∙◌}
use mathlib.Core.Bool.{Bool, true, false, not, cond}
use mathlib.Core.List.{List, ◌++◌}
use Prim.Native.Nat.{ℕ, ◌+◌, ◌*◌, ◌-◌, ◌≤◌}
use native.Mathlib.Nat.{le_refl}
use native.Mathlib.Omega.{arith}
use lib.ListN.{length, drop}
use borrow.Author.Tests.{le-ltb}
use borrow.Rule.Slice.PartMut.{mid_of, put_mid, mid_len}
use Rattle.laws.specs.Steps.{steps}
use Rattle.laws.specs.Parts.{parts}
use Rattle.laws.proofs.Parts.{next-part}
use Rattle.frames.specs.Width.{set_bytes}
use Rattle.frames.specs.Frame.{room_number, written}
use Rattle.frames.specs.Held.{held_in_form, held_frame, write_held_output}
use Rattle.frames.specs.Part.{told_len}
use Rattle.frames.specs.declared.held.Held.{Held}
use Rattle.frames.proofs.HeldLaws.{length_held}
use Rattle.shelf.specs.Grants.{grant_for, granted}

-- gntVal, set if the set is not empty, agrees with it
pub agreeing : (none : Bool) → cond (not none) (not none) none ≡ true
agreeing true = refl
agreeing false = refl

module _ (n : ℕ) where
  abbrev w : ℕ
  w = set_bytes n

  -- a grant in form, written where there is room
  written_whole : (g : Held) (part : List ℕ) → held_in_form w g ≡ true → told_len n ≤ length part → write_held_output w g part ≡ held_frame w g ++ drop (told_len n) part
  unfolding room_number written
  written_whole g part form room = rw (form, le-ltb (length part) (told_len n) room)

  module _ (heard link : ℕ) (sets : List ℕ) where
    abbrev frame_for : ℕ → List ℕ
    frame_for i = held_frame w (grant_for heard link sets i)

    -- the first i grants stand in the output
    pub record Granted (o : List ℕ) (i : ℕ) (out : List ℕ) : Type 0 where
      pub so_far : out ≡ parts frame_for i ++ drop (i * told_len n) o
      pub as_long : length out ≡ length o

    pub none_granted : (o : List ℕ) → Granted o 0 o
    unfolding steps
    none_granted o = record { so_far = refl; as_long = refl }

    pub next_grant : {o out : List ℕ} {i : ℕ} → Granted o i out → (g : Held) (last : List ℕ) → i * told_len n + told_len n ≤ length o → g ≡ grant_for heard link sets i
        → held_in_form w g ≡ true → last ≡ write_held_output w g (mid_of (i * told_len n) (length out - i * told_len n) out)
        → length (put_mid (i * told_len n) (length out - i * told_len n) out last) ≡ length out
        → Granted o (i + 1) (put_mid (i * told_len n) (length out - i * told_len n) out last)
    next_grant {o} {out} {i} r g last room is form wrote kept =
        let a = i * told_len n in
        let part = mid_of a (length out - a) out in
        let fits : told_len n ≤ length part = omega (arith, r.as_long, mid_len a (length out) out (le_refl (length out))) in
        record {
          so_far = next-part frame_for (told_len n) (λ k. length_held w _) i out o last r.so_far (omega (arith, r.as_long)) (wrote ∙ written_whole g part form fits ∙ rw is);
          as_long = kept ∙ r.as_long;
        }

    pub all_granted : {o out : List ℕ} {i : ℕ} → Granted o i out → i ≡ n → out ≡ granted n heard link sets o
    unfolding granted
    all_granted r e = let all = rw e at r in all.so_far
