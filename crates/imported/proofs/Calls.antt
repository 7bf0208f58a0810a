-- What the number 0 says of a call on a whole capture.
use mathlib.Core.Path.{◌≡◌, refl}
use mathlib.Core.Bool.{Bool, true, false, ◌&&◌}
use mathlib.Core.List.{List}
use Prim.Native.Nat.{ℕ}
use native.Mathlib.Omega.{arith}
use lib.Dec.{eqb}
use lib.ListN.{length, take, drop}
use lib.Seq.{take_at}
use borrow.Author.Tests.{eqb-true}
use Rattle.laws.proofs.Tests.{both}
use Rattle.frames.specs.Part.{most_ports}
use Rattle.frames.specs.Frame.{written}
use Rattle.captures.specs.Capture.{is_low, header_sound, records_of, whole_records}
use Rattle.trace_writer.proofs.Fitting.{length_trace}
use Rattle.import_steps.specs.Taking.{start_number, started}
use Rattle.imports.specs.Cut.{Body, Cut, joined_bytes, all_bodies, cut}
use Rattle.imports.specs.Import.{firsts_of, counts_of, trace_for, length_for, cut_number, cut_answer, cut_output, file_number, whole_cut, import_answer, import_output}
use Rattle.imports.specs.Passes.{Fresh}
use Rattle.imports.proofs.Files.{fresh_start}
use Rattle.imports.proofs.Good.{Good, good}
use Rattle.imported.specs.Trace.{imported}

length_for_lem : (n : ℕ) (bs : List Body) → length (trace_for n bs) ≡ length_for n bs
unfolding trace_for length_for
length_for_lem n bs = length_trace n (firsts_of bs) (counts_of bs) (joined_bytes n bs)

-- a capture that is cut
module _ (n : ℕ) (g : Cut) (out : List ℕ) where
  none_cut : (cut_answer n g out).number ≡ 0 → cut_number n g out ≡ 0
  unfolding cut_answer
  none_cut e = go (eqb (cut_number n g out) 0) refl
    where
      go : (b : Bool) → eqb (cut_number n g out) 0 ≡ b → cut_number n g out ≡ 0
      go true q = eqb-true (cut_number n g out) 0 q
      go false q = rw q at e

  known_zero : cut_number n g out ≡ 0 → g.known.number ≡ 0
  unfolding cut_number
  known_zero e = go (eqb g.known.number 0) refl
    where
      go : (b : Bool) → eqb g.known.number 0 ≡ b → g.known.number ≡ 0
      go true q = eqb-true g.known.number 0 q
      go false q = rw q at e

  cut_left : cut_number n g out ≡ 0 → take (cut_answer n g out).fields.length (cut_output n g out) ≡ trace_for n (all_bodies g)
  unfolding cut_answer cut_output written
  cut_left e = rw e (take_at (trace_for n (all_bodies g)) (drop (length_for n (all_bodies g)) out) (length_for n (all_bodies g)) (length_for_lem n (all_bodies g)))

  cut_resent : cut_number n g out ≡ 0 → (cut_answer n g out).fields.resent ≡ g.known.resent
  unfolding cut_answer
  cut_resent e = rw e

module _ (n mode i j : ℕ) (s out : List ℕ) where
  abbrev whole : Cut
  whole = whole_cut most_ports n mode i j s

  pub record Done : Type 0 where
    pub start : start_number most_ports n mode i j ≡ 0
    pub header : header_sound s ≡ true
    pub records : whole_records n s ≡ true
    pub taken : whole.known.number ≡ 0
    pub trace : imported most_ports n mode i j s out ≡ trace_for n (all_bodies whole)
    pub resent : (import_answer most_ports n mode i j s out).fields.resent ≡ whole.known.resent

  file_zero : (import_answer most_ports n mode i j s out).number ≡ 0 → file_number most_ports n mode i j s ≡ 0
  unfolding import_answer
  file_zero e = go (eqb (file_number most_ports n mode i j s) 0) refl
    where
      go : (b : Bool) → eqb (file_number most_ports n mode i j s) 0 ≡ b → file_number most_ports n mode i j s ≡ 0
      go true q = eqb-true (file_number most_ports n mode i j s) 0 q
      go false q = rw q at e

  start_zero : file_number most_ports n mode i j s ≡ 0 → start_number most_ports n mode i j ≡ 0
  unfolding file_number
  start_zero e = go (eqb (start_number most_ports n mode i j) 0) refl
    where
      go : (b : Bool) → eqb (start_number most_ports n mode i j) 0 ≡ b → start_number most_ports n mode i j ≡ 0
      go true q = eqb-true (start_number most_ports n mode i j) 0 q
      go false q = rw q at e

  file_form : file_number most_ports n mode i j s ≡ 0 → header_sound s && whole_records n s ≡ true
  unfolding file_number
  file_form e = go (header_sound s && whole_records n s) refl
    where
      go : (b : Bool) → header_sound s && whole_records n s ≡ b → header_sound s && whole_records n s ≡ true
      go true q = q
      go false q = let no : ◌≡◌ {A = ℕ} 18 0 = rw (start_zero e, q) at e in absurd (omega arith)

  pub done : (import_answer most_ports n mode i j s out).number ≡ 0 → Done
  unfolding import_answer import_output imported
  done e =
      let file = file_zero e in
      let (header, records) = both (header_sound s) _ (file_form file) in
      let none = none_cut n whole out (rw file at e) in
      record {
        start = start_zero file;
        header = header;
        records = records;
        taken = known_zero n whole out none;
        trace = rw file (cut_left n whole out none);
        resent = rw file (cut_resent n whole out none);
      }

  pub fresh : start_number most_ports n mode i j ≡ 0 → Fresh most_ports (started most_ports n mode i j)
  unfolding started
  fresh e = fresh_start n mode i j (started most_ports n mode i j) refl e

  pub good_at : start_number most_ports n mode i j ≡ 0 → (count : ℕ) → Good n (cut most_ports (is_low s) n s (started most_ports n mode i j) count)
  unfolding started
  good_at e count = good (is_low s) s (started most_ports n mode i j) (fresh e) count

  pub good_whole : start_number most_ports n mode i j ≡ 0 → Good n whole
  unfolding whole_cut
  good_whole e = good_at e (records_of n s)
