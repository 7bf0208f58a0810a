-- Lines of document 01, computed: cases A and F with their letters, and a slot of three ports with its number.
use mathlib.Core.Path.{◌≡◌, refl}
use mathlib.Core.List.{[], ◌∷◌}
use lib.ListN.{replicate}
use Rattle.laws.specs.Steps.{steps}
use Rattle.lines.specs.Line.{decimal_in, decimal, target, targets, initiator, initiators, line, slot_line}

-- "A 0:0", "F 0:0 1:- 2:- 3:1,3", and "120 0:10 1:- 2:0,15" of shelves of 16 rows, each with its line's end
pub lines_worked :
    (line 16 (65 ∷ []) 1 (1 ∷ replicate 15 0) ≡ 65 ∷ 32 ∷ 48 ∷ 58 ∷ 48 ∷ 10 ∷ [])
    × (line 16 (70 ∷ []) 4 (1 ∷ 0 ∷ 0 ∷ 10 ∷ replicate 12 0)
    ≡ 70 ∷ 32 ∷ 48 ∷ 58 ∷ 48 ∷ 32 ∷ 49 ∷ 58 ∷ 45 ∷ 32 ∷ 50 ∷ 58 ∷ 45 ∷ 32 ∷ 51 ∷ 58 ∷ 49 ∷ 44 ∷ 51 ∷ 10 ∷ [])
    × (slot_line 16 120 3 (1024 ∷ 0 ∷ 32769 ∷ replicate 13 0)
    ≡ 49 ∷ 50 ∷ 48 ∷ 32 ∷ 48 ∷ 58 ∷ 49 ∷ 48 ∷ 32 ∷ 49 ∷ 58 ∷ 45 ∷ 32 ∷ 50 ∷ 58 ∷ 48 ∷ 44 ∷ 49 ∷ 53 ∷ 10 ∷ [])
unfolding steps decimal_in decimal target targets initiator initiators
lines_worked = (refl, refl, refl)
