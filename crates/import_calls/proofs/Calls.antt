-- The ends of the import's C call: the report has another length; the import declines; it is done.
use mathlib.Core.Path.{◌≡◌, refl, sym}
use mathlib.Core.List.{List}
use Prim.Native.Nat.{ℕ}
use lib.ListN.{length}
use borrow.Author.Tests.{eq-eqb, ne_eqb}
use Rattle.refusals.specs.Numbers.{Answer}
use Rattle.lent.specs.Filled.{fitted_number, filled_after}
use Rattle.frames.specs.Part.{most_ports}
use Rattle.imports.specs.Import.{import_answer, import_output}
use Rattle.imports.specs.declared.answer.Imported.{Imported}
use Rattle.import_calls.specs.Call.{report_len, report_bytes, call_number, call_output, call_report}

module _ (n mode i j : ℕ) (s out report : List ℕ) where
  abbrev Ends : ℕ → List ℕ → List ℕ → Type 0
  Ends number left told = (number ≡ call_number most_ports n mode i j s out report) × (left ≡ call_output most_ports n mode i j s out report) × (told ≡ call_report most_ports n mode i j s out report)

  pub unfit : (length report ≡ report_len → ⊥) → Ends 8 out report
  unfolding fitted_number filled_after
  unfit e = rw (ne_eqb _ _ e) (refl, refl, refl)

  module _ (long : length report ≡ report_len) (x : Answer Imported) (left : List ℕ) (is : x ≡ import_answer most_ports n mode i j s out) (put : left ≡ import_output most_ports n mode i j s out) where
    pub declines : (x.number ≡ 0 → ⊥) → Ends x.number left report
    unfolding fitted_number filled_after
    declines other = rw (eq-eqb _ _ long, ← is, ne_eqb _ _ other) (refl, put, refl)

    pub done : (told : List ℕ) → x.number ≡ 0 → told ≡ report_bytes x.fields → Ends 0 left told
    unfolding fitted_number filled_after
    done told zero e = rw (eq-eqb _ _ long, ← is, eq-eqb _ _ zero) (sym zero, put, e)
