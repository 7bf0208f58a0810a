-- What is printed of a file of sound contents that is read body by body: a line for each body dropped, with its first slot and the word of its fate.
use mathlib.Core.Path.{◌≡◌, ap, ◌∙◌}
use mathlib.Core.Bool.{true}
use mathlib.Core.List.{List}
use Prim.Native.Nat.{ℕ}
use Rattle.laws.specs.Parts.{parts}
use Rattle.trace_parts.specs.Contents.{count_of, entry_of, contents_sound, start_read}
use Rattle.kept_bodies.specs.ByBody.{judged_read}
use Rattle.salvages.specs.Salvage.{fate_at}
use Rattle.salvages.proofs.Chosen.{same_parts}
use Rattle.kept_bodies.proofs.Own.{entry_shown, judged_all, fate-told}
use Rattle.salvage_lines.specs.Dropped.{dropped_line, line_of, dropped_lines}

pub lines_told : (m : ℕ) (s : List ℕ) → contents_sound m s ≡ true
    → dropped_lines m (start_read s) (judged_read m (start_read s) s) ≡ parts (λ k. dropped_line (entry_of s k).first (fate_at m s k)) (count_of s)
lines_told m s sound =
    ap (parts (line_of m (start_read s) (judged_read m (start_read s) s))) (judged_all m s sound)
    ∙ same_parts _ _ (count_of s) (λ k l. rw (entry_shown m s sound k l, fate-told m s sound k l))
