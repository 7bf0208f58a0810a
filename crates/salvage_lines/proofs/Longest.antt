-- The lines of a whole file take no more than 17 bytes for each body, so that with as much room they are put whole.
use mathlib.Core.Path.{◌≡◌}
use mathlib.Core.Bool.{Bool, true, false, cond}
use mathlib.Core.List.{List, [], ◌∷◌, ◌++◌}
use Prim.Native.Nat.{ℕ, ◌*◌, ◌^◌, ◌≤◌, ◌<◌}
use native.Mathlib.Nat.{zero-add}
use native.Mathlib.Omega.{arith}
use lib.Dec.{lit<}
use lib.ListN.{length, drop, length-append}
use Rattle.refusals.specs.Numbers.{Answer}
use Rattle.laws.specs.Bytes.{Bytes}
use Rattle.laws.proofs.Tests.{arms}
use Rattle.trace_parts.specs.Layout.{most_bodies}
use Rattle.trace_parts.specs.Contents.{has_entry, read_entry}
use Rattle.trace_parts.specs.declared.contents.Described.{Described}
use Rattle.lines.specs.Line.{decimal, space, line_end}
use Rattle.lines.specs.Put.{Put}
use Rattle.lines.proofs.Longest.{number_most, parts_most}
use Rattle.lines.proofs.Putting.{whole}
use Rattle.body_fates.specs.Fate.{is_kept}
use Rattle.body_fates.specs.declared.body.Fate.{Fate}
use Rattle.body_fates.specs.declared.body.Fate.TheVariants.{Kept, Short, Check, Form}
use Rattle.body_fates.specs.Judged.{fate_of}
use Rattle.body_fates.specs.declared.judging.Judged.{Judged}
use Rattle.kept_bodies.proofs.Salvages.{first_small}
use Rattle.salvage_lines.specs.Dropped.{word, dropped_line, line_of, dropped_lines}

word_most : (fate : Fate) → length (word fate) ≤ 5
word_most Short = omega arith
word_most Check = omega arith
word_most Kept = omega arith
word_most Form = omega arith

line_most : (first : ℕ) (fate : Fate) → first < 2 ^ 32 → length (dropped_line first fate) ≤ 17
unfolding dropped_line
line_most first fate h = go (is_kept fate) (number_most 9 first (omega arith)) (word_most fate)
  where
    go : (b : Bool) → length (decimal first) ≤ 10 → length (word fate) ≤ 5
        → length (cond b [] (decimal first ++ (space ∷ []) ++ word fate ++ (line_end ∷ []))) ≤ 17
    go true n w = omega arith
    go false n w = simp length-append (omega arith)

-- of contents in bytes
module _ (m : ℕ) (start : List ℕ) (bytes : Bytes start) (j : Judged) where
  first_most : (k : ℕ) → (read_entry m start k).fields.entry.first < 2 ^ 32
  first_most k = arms (λ (r : Answer Described). r.fields.entry.first < 2 ^ 32) (has_entry m start k) _ _ (λ e. first_small start bytes k) (λ e. lit< tt)

  lines_most : length (dropped_lines m start j) ≤ j.bodies * 17
  lines_most = parts_most (line_of m start j) 17 j.bodies (λ k l. line_most _ (fate_of j k) (first_most k))

  -- with room for as many bodies as a trace has
  pub lines_whole : {o out : List ℕ} {end : ℕ} → j.bodies ≤ most_bodies → most_bodies * 17 ≤ length o → Put o 0 (dropped_lines m start j) out end
      → (out ≡ dropped_lines m start j ++ drop (length (dropped_lines m start j)) o) × (end ≡ length (dropped_lines m start j))
  lines_whole few room p = rw (zero-add (length (dropped_lines m start j))) at (whole p (omega (arith, lines_most)))
