-- Kept are exactly the sound bodies of a file.
use mathlib.Core.Path.{◌≡◌}
use mathlib.Core.List.{List, []}
use Prim.Native.Nat.{ℕ}
use mathlib.Core.Bool.{true, false}
use Rattle.trace_parts.specs.Contents.{ports_of, entry_of}
use Rattle.traces.specs.Trace.{body_at, sound_at}
use Rattle.body_fates.specs.declared.body.Fate.{Fate}
use Rattle.body_fates.specs.Fate.{is_kept}
use Rattle.body_fates.proofs.Sound.{sound_kept}
use Rattle.salvages.specs.Salvage.{fate_at, if_sound}

module _ (m : ℕ) (s : List ℕ) (k : ℕ) where
  pub kept_exactly : is_kept (fate_at m s k) ≡ sound_at m s k
  unfolding fate_at sound_at
  kept_exactly = sound_kept m (ports_of s) (entry_of s k).slots (body_at s k)

  -- what is put of a body by its fate
  module _ (f : ℕ → List ℕ) (fate : Fate) (is : fate ≡ fate_at m s k) where
    pub dropped : is_kept fate ≡ false → if_sound m s f k ≡ []
    dropped other = rw (← kept_exactly, ← is, other)

    pub taken : is_kept fate ≡ true → if_sound m s f k ≡ f k
    taken z = rw (← kept_exactly, ← is, z)
