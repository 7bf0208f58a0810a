-- Lines of document 02, computed: "1234 check", "8 form" and "90 short", and none of a body that is kept.
use mathlib.Core.Path.{◌≡◌, refl}
use mathlib.Core.List.{[], ◌∷◌}
use Rattle.lines.specs.Line.{decimal_in, decimal}
use Rattle.body_fates.specs.declared.body.Fate.TheVariants.{Kept, Short, Check, Form}
use Rattle.salvage_lines.specs.Dropped.{dropped_line}

pub lines_worked :
    (dropped_line 1234 Check ≡ 49 ∷ 50 ∷ 51 ∷ 52 ∷ 32 ∷ 99 ∷ 104 ∷ 101 ∷ 99 ∷ 107 ∷ 10 ∷ [])
    × (dropped_line 8 Form ≡ 56 ∷ 32 ∷ 102 ∷ 111 ∷ 114 ∷ 109 ∷ 10 ∷ [])
    × (dropped_line 90 Short ≡ 57 ∷ 48 ∷ 32 ∷ 115 ∷ 104 ∷ 111 ∷ 114 ∷ 116 ∷ 10 ∷ [])
    × (dropped_line 8 Kept ≡ [])
unfolding decimal_in decimal dropped_line
lines_worked = (refl, refl, refl, refl)
