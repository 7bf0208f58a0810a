-- What becomes of a body of a damaged trace: it is kept, or dropped for the first of three faults.
use Rattle.std.specs.Prelude.{ℕ, Bool, true, false, cond, List}
use Rattle.words.specs.Check.{intact}
use Rattle.trace_parts.specs.Body.{fields_of, formed, complete}
use Rattle.body_fates.specs.declared.body.Fate.{Fate}
use Rattle.body_fates.specs.declared.body.Fate.TheVariants.{Kept, Short, Check, Form}

-- in the table that C is told
abbrev pub fate_number : Fate → ℕ
fate_number Kept = 0
fate_number Short = 1
fate_number Check = 2
fate_number Form = 3

abbrev pub is_kept : Fate → Bool
is_kept Kept = true
is_kept Short = false
is_kept Check = false
is_kept Form = false

-- of a body for n ports, of so many slots by its entry, where at most m ports are allowed
unfoldable pub fate : ℕ → ℕ → ℕ → List ℕ → Fate
fate m n slots body =
    cond (complete m n slots body)
    (cond (intact body)
    (cond (formed n (fields_of body)) Kept Form)
    Check)
    Short
