-- The lines of the bodies that are dropped, as document 02 prints them: the first slot, a space and a word for why, in ASCII.
use Rattle.std.specs.Prelude.{ℕ, cond, List, [], ◌∷◌, ◌++◌}
use Rattle.laws.specs.Parts.{parts}
use Rattle.lines.specs.Line.{decimal, space, line_end}
use Rattle.trace_parts.specs.Contents.{read_entry}
use Rattle.body_fates.specs.Fate.{is_kept}
use Rattle.body_fates.specs.declared.body.Fate.{Fate}
use Rattle.body_fates.specs.declared.body.Fate.TheVariants.{Kept, Short, Check, Form}
use Rattle.body_fates.specs.Judged.{fate_of}
use Rattle.body_fates.specs.declared.judging.Judged.{Judged}

-- "short", "check" and "form"
abbrev pub short_word : List ℕ
short_word = 115 ∷ 104 ∷ 111 ∷ 114 ∷ 116 ∷ []

abbrev pub check_word : List ℕ
check_word = 99 ∷ 104 ∷ 101 ∷ 99 ∷ 107 ∷ []

abbrev pub form_word : List ℕ
form_word = 102 ∷ 111 ∷ 114 ∷ 109 ∷ []

abbrev pub word : Fate → List ℕ
word Short = short_word
word Check = check_word
word Kept = form_word
word Form = form_word

-- of a body with that first slot and fate; none of one that is kept
unfoldable pub dropped_line : ℕ → Fate → List ℕ
dropped_line first fate = cond (is_kept fate) [] (decimal first ++ (space ∷ []) ++ word fate ++ (line_end ∷ []))

-- of the bodies judged, by their entries in contents where at most m ports are allowed
abbrev pub line_of : ℕ → List ℕ → Judged → ℕ → List ℕ
line_of m start j k = dropped_line (read_entry m start k).fields.entry.first (fate_of j k)

abbrev pub dropped_lines : ℕ → List ℕ → Judged → List ℕ
dropped_lines m start j = parts (line_of m start j) j.bodies
