-- The second pass over a capture: what a record more does to the bodies that are laid one behind the other, the open one from byte `start` on.
use Rattle.std.specs.Prelude.{ℕ, ◌+◌, ◌≡◌, Bool, cond, List, ◌++◌, take, drop}
use Rattle.frames.specs.Part.{most_ports}
use Rattle.captures.specs.Capture.{low_first, records_of}
use Rattle.captures.specs.declared.number.ByteOrder.{ByteOrder}
use Rattle.import_steps.specs.declared.taking.Import.{Import}
use Rattle.import_steps.specs.Taking.{Known, known, started, taken, begun, ends_body}
use Rattle.import_steps.specs.Laying.{open_len, close_output, lay_output}
use Rattle.imports.specs.Cut.{Cut, cut}

-- before the first record, where none of 1, 2 and 5 applies
pub record Fresh (m : ℕ) (p : Known) : Type 0 where
  pub number : p.number ≡ 0
  pub is : p ≡ started m p.state.ports p.mode p.state.initiator.0 p.state.target.0

-- a capture s, cut from what is known before its first record on
abbrev pub cut_of : ByteOrder → Import → List ℕ → Cut
cut_of order start s = cut most_ports (low_first order) start.state.ports s (known start) (records_of start.state.ports s)

-- f done to the bytes from `at` on
abbrev pub from : ℕ → (List ℕ → List ℕ) → List ℕ → List ℕ
from at f s = take at s ++ f (drop at s)

-- the open body closed, if the record after which q is known ends it; and where the open body is then
unfoldable pub ended_in : ℕ → Known → Known → ℕ → List ℕ → List ℕ
ended_in m p q start s = cond (ends_body p q) (from start (close_output m p) s) s

unfoldable pub ended_at : Known → Known → ℕ → ℕ
ended_at p q start = cond (ends_body p q) (start + open_len p) start

-- and the record r laid
unfoldable pub laid_in : ℕ → Bool → Known → List ℕ → ℕ → List ℕ → List ℕ
laid_in m low p r start s = from (ended_at p (taken m low p r) start) (lay_output m low p r) (ended_in m p (taken m low p r) start s)

-- the last body closed
unfoldable pub shut_in : ℕ → Known → ℕ → List ℕ → List ℕ
shut_in m p start s = cond (begun p) (from start (close_output m p) s) s
