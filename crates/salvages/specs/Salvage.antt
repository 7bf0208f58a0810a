-- A damaged trace, salvaged. If its contents are sound, every body that is complete, of right check and of proper form is kept, unchanged and in
-- order, in a new trace of just these; where at most m ports are allowed.
use Rattle.std.specs.Prelude.{ℕ, cond, List, [], ◌∷◌, eqb, ltb, length}
use Rattle.laws.specs.Parts.{parts}
use Rattle.refusals.specs.Numbers.{Answer}
use Rattle.frames.specs.Frame.{room_number, written}
use Rattle.trace_parts.specs.Contents.{ports_of, count_of, entry_of, contents_sound}
use Rattle.traces.specs.Trace.{body_at, sound_at}
use Rattle.trace_writer.specs.Parts.{listed}
use Rattle.trace_writer.specs.Writer.{trace_of}
use Rattle.body_fates.specs.declared.body.Fate.{Fate}
use Rattle.body_fates.specs.Fate.{fate_number, fate}
use Rattle.salvages.specs.declared.whole.Salvaged.{Salvaged}

-- f k, if body k is sound; and so for the first k bodies, in order
abbrev pub if_sound : ℕ → List ℕ → (ℕ → List ℕ) → ℕ → List ℕ
if_sound m s f k = cond (sound_at m s k) (f k) []

abbrev pub of_sound : ℕ → List ℕ → (ℕ → List ℕ) → ℕ → List ℕ
of_sound m s f = parts (if_sound m s f)

-- the first slots, the slot counts and the bytes of the sound ones
abbrev pub kept_firsts : ℕ → List ℕ → ℕ → List ℕ
kept_firsts m s = of_sound m s (λ k. (entry_of s k).first ∷ [])

abbrev pub kept_slots : ℕ → List ℕ → ℕ → List ℕ
kept_slots m s = of_sound m s (λ k. (entry_of s k).slots ∷ [])

abbrev pub kept_bodies : ℕ → List ℕ → ℕ → List ℕ
kept_bodies m s = of_sound m s (body_at s)

unfoldable pub salvaged : ℕ → List ℕ → List ℕ
salvaged m s = trace_of (ports_of s) (kept_firsts m s (count_of s)) (kept_slots m s (count_of s)) (kept_bodies m s (count_of s))

-- what becomes of body k
unfoldable pub fate_at : ℕ → List ℕ → ℕ → Fate
fate_at m s k = fate m (ports_of s) (entry_of s k).slots (body_at s k)

-- and as C is told it
abbrev pub told_at : ℕ → List ℕ → ℕ → ℕ
told_at m s k = fate_number (fate_at m s k)

-- ---- what the call answers

-- 14 if the contents or their check are wrong, then 7 for a table or an output that is too short
unfoldable pub salvage_number : ℕ → List ℕ → List ℕ → List ℕ → ℕ
salvage_number m s out fates =
    cond (contents_sound m s)
    (cond (ltb (length fates) (count_of s)) 7 (room_number (length (salvaged m s)) out))
    14

abbrev pub no_salvage : Salvaged
no_salvage = record { len = 0; count = 0 }

module _ (m : ℕ) (s out fates : List ℕ) where
  unfoldable pub salvage_answer : Answer Salvaged
  salvage_answer =
      cond (eqb (salvage_number m s out fates) 0)
      (record { number = 0; fields = record { len = length (salvaged m s); count = count_of s } })
      (record { number = salvage_number m s out fates; fields = no_salvage })

  abbrev pub salvage_output : List ℕ
  salvage_output = written (salvage_number m s out fates) (length (salvaged m s)) (salvaged m s) out

  abbrev pub salvage_fates : List ℕ
  salvage_fates = written (salvage_number m s out fates) (count_of s) (listed (told_at m s) (count_of s)) fates
