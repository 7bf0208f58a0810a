-- What is salvaged is never longer than the file.
use mathlib.Core.Path.{◌≡◌, refl}
use mathlib.Core.Bool.{Bool, true, false, cond}
use mathlib.Core.List.{List, [], ◌++◌, append-nil}
use Prim.Native.Nat.{ℕ, zero, suc, ◌+◌, ◌≤◌, ◌<◌}
use native.Mathlib.Nat.{le_refl}
use native.Mathlib.Omega.{arith}
use lib.ListN.{length, length-append}
use Rattle.laws.specs.Steps.{steps}
use Rattle.trace_parts.specs.Contents.{ports_of, count_of, entry_of, contents_end, due, contents_sound}
use Rattle.trace_parts.proofs.BodyLaws.{sound, room}
use Rattle.trace_parts.proofs.ContentsLaws.{Contents, contents}
use Rattle.traces.specs.Trace.{body_at, sound_at}
use Rattle.salvages.specs.Salvage.{kept_bodies, salvaged}
use Rattle.salvages.proofs.Wholes.{many_slots, known_numbers, salvaged_long}

module _ (m : ℕ) (s : List ℕ) (c : Contents m s) where
  -- what is kept of the first k bodies takes no more than they do, and no more than the file has
  abbrev Fits : ℕ → List ℕ → Type 0
  Fits k kept = (contents_end s + length kept ≤ due s k) × (contents_end s + length kept ≤ length s)

  fits_next : (k : ℕ) (l : k < count_of s) (kept : List ℕ) → Fits k kept → (b : Bool) → sound_at m s k ≡ b → Fits (suc k) (kept ++ cond b (body_at s k) [])
  unfolding due sound_at body_at
  fits_next k l kept h true e =
      let whole = (sound m (ports_of s) (entry_of s k).slots (body_at s k) e).whole.long in
      let there = room (ports_of s) (entry_of s k).slots (entry_of s k).offset s whole in
      rw (length-append kept (body_at s k)) (omega (arith, h.0, whole, (c.entries k l).follows), omega (arith, h.0, whole, there, (c.entries k l).follows))
  fits_next k l kept h false e = rw append-nil (omega (arith, h.0, (c.entries k l).follows), h.1)

  fits : (k : ℕ) → k ≤ count_of s → Fits k (kept_bodies m s k)
  unfolding due steps
  fits zero h = (omega arith, omega (arith, c.long))
  fits (suc k) h = fits_next k h (kept_bodies m s k) (fits k (omega arith)) (sound_at m s k) refl

pub no_longer : (m : ℕ) (s : List ℕ) → contents_sound m s ≡ true → length (salvaged m s) ≤ length s
no_longer m s e =
    let c = contents m s e in
    omega (arith, salvaged_long m s c, many_slots m s, (known_numbers m s).few, (fits m s c (count_of s) (le_refl _)).1)
