-- The ends of the call on a whole file, before its records: a number of what the caller gives, and the file's form.
use Prim.Native.Nat.{◌+◌, ◌*◌, ◌≤◌}
use native.Mathlib.Nat.{div-mul-le_self}
use mathlib.Core.Path.{◌≡◌, refl, sym, ap, ◌∙◌}
use mathlib.Core.Bool.{Bool, true, false, ◌&&◌}
use mathlib.Core.List.{List}
use Prim.Native.Nat.{ℕ, ◌-◌, ◌/◌, ◌%◌}
use native.Mathlib.Omega.{arith}
use lib.ListN.{length}
use borrow.Author.Tests.{eq-eqb, ne_eqb}
use Rattle.laws.proofs.Tests.{every}
use Rattle.std.specs.Prelude.{Ok, Err}
use Rattle.refusals.specs.Numbers.{number, Answer, answer_of}
use Rattle.refusals.specs.declared.Refusal.{Refusal}
use Rattle.refusals.proofs.Unique.{refused_is_not_done}
use Rattle.frames.specs.Part.{most_ports}
use Rattle.captures.specs.Capture.{header_len, record_len, low_first, is_low, header_sound, header_read, records_of, whole_records}
use Rattle.captures.specs.declared.number.ByteOrder.{ByteOrder}
use Rattle.captures.specs.declared.number.ByteOrder.TheVariants.{HighFirst}
use Rattle.captures.proofs.Headers.{low_of_order}
use Rattle.import_steps.specs.Taking.{Known, at_start, numbered, start_number, started}
use Rattle.imports.specs.Cut.{Cut, cut}
use Rattle.imports.specs.Import.{refused, cut_answer, cut_output, file_number, whole_cut, import_answer, import_output}
use Rattle.imports.specs.Passes.{Fresh}
use Rattle.imports.specs.declared.answer.Imported.{Imported}

pub fresh_start : (n mode i j : ℕ) (p : Known) → p ≡ started most_ports n mode i j → p.number ≡ 0 → Fresh most_ports p
unfolding started
fresh_start n mode i j p e zero = record { number = zero; is = rw e }

pub start_ports : (n mode i j : ℕ) (p : Known) → p ≡ started most_ports n mode i j → p.state.ports ≡ n
unfolding started
start_ports n mode i j p e = ap (λ (q : Known). q.state.ports) e

pub start_number_lem : (n mode i j : ℕ) (p : Known) → p ≡ started most_ports n mode i j → p.number ≡ start_number most_ports n mode i j
unfolding started
start_number_lem n mode i j p e = ap (λ (q : Known). q.number) e

pub start_refused : (n mode i j : ℕ) (why : Refusal) → numbered (number why) (at_start n mode i j) ≡ started most_ports n mode i j → number why ≡ start_number most_ports n mode i j
unfolding numbered started
start_refused n mode i j why e = ap (λ (q : Known). q.number) e

-- what the header's reading says
pub record Read (s : List ℕ) (order : ByteOrder) : Type 0 where
  pub sound : header_sound s ≡ true
  pub low : low_first order ≡ is_low s

pub read_sound : (s : List ℕ) (order : ByteOrder) → answer_of HighFirst (Ok order) ≡ header_read s → Read s order
unfolding header_read
read_sound s order e = go (header_sound s) refl
  where
    go : (b : Bool) → header_sound s ≡ b → Read s order
    go true q = record { sound = q; low = ap (λ (x : Answer ByteOrder). low_first x.fields) e ∙ rw q (low_of_order (is_low s)) }
    go false q = let no18 : ◌≡◌ {A = ℕ} 0 18 = ap (λ (x : Answer ByteOrder). x.number) e ∙ rw q in absurd (omega arith)

pub read_unsound : (s : List ℕ) (why : Refusal) → answer_of HighFirst (Err why) ≡ header_read s → (header_sound s ≡ false) × (number why ≡ 18)
unfolding header_read
read_unsound s why e = go (header_sound s) refl
  where
    go : (b : Bool) → header_sound s ≡ b → (header_sound s ≡ false) × (number why ≡ 18)
    go true q = absurd (refused_is_not_done why (ap (λ (x : Answer ByteOrder). x.number) e ∙ rw q))
    go false q = (q, ap (λ (x : Answer ByteOrder). x.number) e ∙ rw q)

module _ (n mode i j : ℕ) (s out : List ℕ) where
  abbrev Ends : Answer Imported → List ℕ → Type 0
  Ends x left = (x ≡ import_answer most_ports n mode i j s out) × (left ≡ import_output most_ports n mode i j s out)

  declined : (v : ℕ) (x : Answer Imported) → (v ≡ 0 → ⊥) → file_number most_ports n mode i j s ≡ v → x ≡ refused v → Ends x out
  unfolding import_answer import_output
  declined v x other is e = rw (is, ne_eqb v 0 other) (e, refl)

  -- 1, 2 and 5
  pub start-declined : (v : ℕ) (x : Answer Imported) → (v ≡ 0 → ⊥) → v ≡ start_number most_ports n mode i j → x ≡ refused v → Ends x out
  unfolding file_number
  start-declined v x other is e = declined v x other (rw (← is, ne_eqb v 0 other)) e

  -- 18
  pub file_declined : (x : Answer Imported) → start_number most_ports n mode i j ≡ 0 → header_sound s && whole_records n s ≡ false → x ≡ refused 18 → Ends x out
  unfolding file_number
  file_declined x zero unsound e = declined 18 x (λ q. omega arith) (rw (zero, unsound)) e

  -- the records decide
  pub records_decide : (x : Answer Imported) (left : List ℕ) → start_number most_ports n mode i j ≡ 0 → header_sound s && whole_records n s ≡ true
      → x ≡ cut_answer n (whole_cut most_ports n mode i j s) out → left ≡ cut_output n (whole_cut most_ports n mode i j s) out → Ends x left
  unfolding import_answer import_output file_number
  records_decide x left zero sound e l = rw (zero, sound) (e, l)

  whole_is : (p : Known) (low : Bool) (count : ℕ) → p ≡ started most_ports n mode i j → low ≡ is_low s → count ≡ records_of n s
      → cut most_ports low p.state.ports s p count ≡ whole_cut most_ports n mode i j s
  unfolding whole_cut started
  whole_is p low count e l c = rw (e, l, c)

  pub records_answer : (p : Known) (low : Bool) (count : ℕ) → p ≡ started most_ports n mode i j → low ≡ is_low s → count ≡ records_of n s → p.number ≡ 0
      → header_sound s ≡ true → whole_records n s ≡ true → (x : Answer Imported) (left : List ℕ)
      → x ≡ cut_answer p.state.ports (cut most_ports low p.state.ports s p count) out → left ≡ cut_output p.state.ports (cut most_ports low p.state.ports s p count) out → Ends x left
  records_answer p low count e l c zero sound whole x left a b =
      let ports = start_ports n mode i j p e in
      let is = whole_is p low count e l c in
      records_decide x left (sym (start_number_lem n mode i j p e) ∙ zero) (every sound whole)
      (a ∙ ap (λ (z : ℕ). cut_answer z (cut most_ports low p.state.ports s p count) out) ports ∙ ap (λ (g : Cut). cut_answer n g out) is)
      (b ∙ ap (λ (z : ℕ). cut_output z (cut most_ports low p.state.ports s p count) out) ports ∙ ap (λ (g : Cut). cut_output n g out) is)

pub records_are : (n len : ℕ) (s : List ℕ) → len ≡ record_len n → (length s - header_len) / len ≡ records_of n s
unfolding records_of
records_are n len s e = ap (λ (z : ℕ). (length s - header_len) / z) e

pub cut_record : (n len : ℕ) (s : List ℕ) → len ≡ record_len n → ((length s - header_len) % len ≡ 0 → ⊥) → whole_records n s ≡ false
unfolding whole_records
cut_record n len s e other = rw (← e) (ne_eqb _ _ other)

pub whole_records_lem : (n len : ℕ) (s : List ℕ) → len ≡ record_len n → (length s - header_len) % len ≡ 0 → whole_records n s ≡ true
unfolding whole_records
whole_records_lem n len s e none = rw (← e) (eq-eqb _ _ none)

pub records_within : (n ports len : ℕ) (s : List ℕ) → len ≡ record_len n → ports ≡ n → header_len ≤ length s → header_len + (length s - header_len) / len * record_len ports ≤ length s
records_within n ports len s e p h = rw (p, ← e) (omega (arith, div-mul-le_self (length s - header_len) len))
