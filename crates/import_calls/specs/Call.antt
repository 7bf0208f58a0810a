-- The C form of the import: the number, and what is lent, the output and a report of the trace's length and the frames resent.
use Rattle.std.specs.Prelude.{ℕ, cond, List, ◌++◌, eqb, length}
use Rattle.laws.specs.Bytes.{big_endian}
use Rattle.lent.specs.Filled.{fitted_number, filled_after}
use Rattle.imports.specs.Import.{import_answer, import_output}
use Rattle.imports.specs.declared.answer.Imported.{Imported}

abbrev pub report_len : ℕ
report_len = 8

abbrev pub report_bytes : Imported → List ℕ
report_bytes r = big_endian 4 r.length ++ big_endian 4 r.resent

-- 8 for a report of another length, before what the import answers; declining, output and report stay
module _ (m n mode i j : ℕ) (s out report : List ℕ) where
  abbrev pub call_number : ℕ
  call_number = fitted_number (eqb (length report) report_len) (import_answer m n mode i j s out).number

  abbrev pub call_report : List ℕ
  call_report = filled_after call_number (report_bytes (import_answer m n mode i j s out).fields) report

  abbrev pub call_output : List ℕ
  call_output = cond (eqb (length report) report_len) (import_output m n mode i j s out) out
