-- The C form of the trace calls that show numbers: the words of what is read, in words that are lent.
use Rattle.std.specs.Prelude.{ℕ, List, [], ◌∷◌, eqb, length}
use Rattle.refusals.specs.Numbers.{Answer}
use Rattle.lent.specs.Filled.{fitted_number, filled_after}
use Rattle.trace_parts.specs.declared.contents.Head.{Head}
use Rattle.trace_parts.specs.declared.contents.Described.{Described}

-- ports and body count
abbrev pub head_words : Head → List ℕ
head_words h = h.ports ∷ h.count ∷ []

abbrev pub head_words_len : ℕ
head_words_len = 2

-- first slot, number of slots, where the body starts in the file, and how many bytes it has
abbrev pub entry_words : Described → List ℕ
entry_words e = e.entry.first ∷ e.entry.slots ∷ e.entry.offset ∷ e.len ∷ []

abbrev pub entry_words_len : ℕ
entry_words_len = 4

-- 8 for words of another length, before what reading answers; declining, the words stay
module _ (h : Answer Head) (shown : List ℕ) where
  abbrev pub head_number : ℕ
  head_number = fitted_number (eqb (length shown) head_words_len) h.number

  abbrev pub head_shown : List ℕ
  head_shown = filled_after head_number (head_words h.fields) shown

module _ (e : Answer Described) (body : List ℕ) where
  abbrev pub entry_number : ℕ
  entry_number = fitted_number (eqb (length body) entry_words_len) e.number

  abbrev pub entry_shown : List ℕ
  entry_shown = filled_after entry_number (entry_words e.fields) body
