-- The import of a whole capture: the trace that its bodies make, and what the call answers.
use Rattle.std.specs.Prelude.{ℕ, ◌&&◌, cond, List, map, eqb, length}
use Rattle.refusals.specs.Numbers.{Answer}
use Rattle.frames.specs.Frame.{room_number, written}
use Rattle.trace_writer.specs.Writer.{trace_of, trace_len}
use Rattle.captures.specs.Capture.{is_low, header_sound, records_of, whole_records}
use Rattle.import_steps.specs.Taking.{start_number, started}
use Rattle.imports.specs.Cut.{Body, Cut, joined_bytes, all_bodies, cut}
use Rattle.imports.specs.declared.answer.Imported.{Imported}

-- the bodies' first slots, and their slot counts
abbrev pub firsts_of : List Body → List ℕ
firsts_of bs = map (λ b. b.first) bs

abbrev pub counts_of : List Body → List ℕ
counts_of bs = map (λ b. length b.slots) bs

-- their trace, and its length
unfoldable pub trace_for : ℕ → List Body → List ℕ
trace_for n bs = trace_of n (firsts_of bs) (counts_of bs) (joined_bytes n bs)

unfoldable pub length_for : ℕ → List Body → ℕ
length_for n bs = trace_len (counts_of bs) (joined_bytes n bs)

-- ---- what a capture that is cut answers, of n ports

-- the step's number, then 7
unfoldable pub cut_number : ℕ → Cut → List ℕ → ℕ
cut_number n g out = cond (eqb g.known.number 0) (room_number (length_for n (all_bodies g)) out) g.known.number

-- the number, the length of the trace, and the frames resent; zeros where the call declines
abbrev pub nothing : Imported
nothing = record { length = 0; resent = 0 }

abbrev pub refused : ℕ → Answer Imported
refused number = record { number = number; fields = nothing }

unfoldable pub cut_answer : ℕ → Cut → List ℕ → Answer Imported
cut_answer n g out =
    cond (eqb (cut_number n g out) 0) (record { number = 0; fields = record { length = length_for n (all_bodies g); resent = g.known.resent } })
    (refused (cut_number n g out))

unfoldable pub cut_output : ℕ → Cut → List ℕ → List ℕ
cut_output n g out = written (cut_number n g out) (length_for n (all_bodies g)) (trace_for n (all_bodies g)) out

-- ---- the call: ports n, mode, and first offsets i and j; the capture s, and the output

-- 1, 2 and 5; then 18 for the header, or bytes that are no whole records
unfoldable pub file_number : ℕ → ℕ → ℕ → ℕ → ℕ → List ℕ → ℕ
file_number m n mode i j s =
    cond (eqb (start_number m n mode i j) 0) (cond (header_sound s && whole_records n s) 0 18) (start_number m n mode i j)

unfoldable pub whole_cut : ℕ → ℕ → ℕ → ℕ → ℕ → List ℕ → Cut
whole_cut m n mode i j s = cut m (is_low s) n s (started m n mode i j) (records_of n s)

unfoldable pub import_answer : ℕ → ℕ → ℕ → ℕ → ℕ → List ℕ → List ℕ → Answer Imported
import_answer m n mode i j s out = cond (eqb (file_number m n mode i j s) 0) (cut_answer n (whole_cut m n mode i j s) out) (refused (file_number m n mode i j s))

unfoldable pub import_output : ℕ → ℕ → ℕ → ℕ → ℕ → List ℕ → List ℕ → List ℕ
import_output m n mode i j s out = cond (eqb (file_number m n mode i j s) 0) (cut_output n (whole_cut m n mode i j s) out) out
