-- The C form of the salvage of a file: what is salvaged in an output and a table of fates that are lent, and its words.
use Rattle.std.specs.Prelude.{ℕ, Bool, cond, List, [], ◌∷◌, eqb, length}
use Rattle.lent.specs.Filled.{fitted_number, filled_after}
use Rattle.salvages.specs.declared.whole.Salvaged.{Salvaged}
use Rattle.salvages.specs.Salvage.{salvage_answer, salvage_output, salvage_fates}

-- the length of the new trace, and the body count of the file
abbrev pub salvaged_words : Salvaged → List ℕ
salvaged_words made = made.len ∷ made.count ∷ []

abbrev pub salvaged_words_len : ℕ
salvaged_words_len = 2

-- 8 for words of another length, before what salvaging answers; declining, everything lent stays
module _ (m : ℕ) (file out fates shown : List ℕ) where
  abbrev pub shown_fits : Bool
  shown_fits = eqb (length shown) salvaged_words_len

  abbrev pub salvaged_number : ℕ
  salvaged_number = fitted_number shown_fits (salvage_answer m file out fates).number

  abbrev pub salvaged_shown : List ℕ
  salvaged_shown = filled_after salvaged_number (salvaged_words (salvage_answer m file out fates).fields) shown

  unfoldable pub salvaged_output : List ℕ
  salvaged_output = cond shown_fits (salvage_output m file out fates) out

  unfoldable pub salvaged_fates : List ℕ
  salvaged_fates = cond shown_fits (salvage_fates m file out fates) fates
