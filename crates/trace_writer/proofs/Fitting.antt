-- What is known of fields, counts and bodies that fit, and how long what is written is.
use mathlib.Core.Path.{◌≡◌, refl, ap, ◌∙◌}
use mathlib.Core.Bool.{Bool, true, false, ◌&&◌}
use mathlib.Core.List.{List, ◌++◌}
use Prim.Native.Nat.{ℕ, ◌+◌, ◌*◌, ◌≤◌, ◌<◌}
use lib.Dec.{eqb, leb}
use lib.ListN.{length, get_or, length-append}
use borrow.Author.Tests.{eqb-true, leb-true}
use Rattle.laws.specs.Steps.{every}
use Rattle.laws.specs.Tests.{between}
use Rattle.laws.specs.Bytes.{big_endian}
use Rattle.laws.proofs.Parts.{length_parts}
use Rattle.laws.proofs.Every.{every_each}
use Rattle.laws.proofs.Tests.{both, from_to}
use Rattle.words.proofs.CheckLaws.{length_checked}
use Rattle.trace_parts.specs.Layout.{block_len, contents_len, most_slots, most_bodies}
use Rattle.trace_parts.specs.Body.{formed, body_sound}
use Rattle.trace_parts.specs.declared.body.Fields.{Fields}
use Rattle.trace_writer.specs.Sealing.{field_bytes, body_of, body_fits}
use Rattle.trace_writer.specs.Writer.{start_of, joined, head_bytes, entry_bytes, entry_for, entries_for, contents_of, counts_fit, joined_sound, parts_sound, trace_of, trace_len}

-- ---- a body

pub record BodyFits (m n slots : ℕ) (f : Fields) (blocks : List ℕ) : Type 0 where
  pub some : 1 ≤ n
  pub ports : n ≤ m
  pub least : 1 ≤ slots
  pub most : slots ≤ most_slots n
  pub long : length blocks ≡ slots * block_len n
  pub form : formed n f ≡ true

pub body_fits_lem : (m n slots : ℕ) (f : Fields) (blocks : List ℕ) → body_fits m n slots f blocks ≡ true → BodyFits m n slots f blocks
unfolding body_fits
body_fits_lem m n slots f blocks e =
    let (a, e1) = both (between 1 m n) _ e in
    let (b, e2) = both (between 1 (most_slots n) slots) _ e1 in
    let (c, d) = both (eqb (length blocks) (slots * block_len n)) _ e2 in
    let (some, ports) = from_to 1 m n a in
    let (least, most) = from_to 1 (most_slots n) slots b in
    record { some = some; ports = ports; least = least; most = most; long = eqb-true (length blocks) (slots * block_len n) c; form = d }

pub length_body : (f : Fields) (blocks : List ℕ) → length (body_of f blocks) ≡ 3 + length blocks + 2
unfolding body_of big_endian
length_body f blocks = length_checked (field_bytes f ++ blocks) ∙ ap (λ (k : ℕ). k + 2) (length-append (field_bytes f) blocks)

-- ---- the contents

pub record CountsFit (m n : ℕ) (firsts slots : List ℕ) : Type 0 where
  pub some : 1 ≤ n
  pub ports : n ≤ m
  pub same : length firsts ≡ length slots
  pub count : length slots ≤ most_bodies
  pub least : (k : ℕ) → k < length slots → 1 ≤ get_or slots k 0
  pub most : (k : ℕ) → k < length slots → get_or slots k 0 ≤ most_slots n

pub counts_fit_lem : (m n : ℕ) (firsts slots : List ℕ) → counts_fit m n firsts slots ≡ true → CountsFit m n firsts slots
unfolding counts_fit
counts_fit_lem m n firsts slots e =
    let (a, e1) = both (between 1 m n) _ e in
    let (b, e2) = both (eqb (length firsts) (length slots)) _ e1 in
    let (c, all) = both (leb (length slots) most_bodies) _ e2 in
    let (some, ports) = from_to 1 m n a in
    let each : (k : ℕ) → k < length slots → (1 ≤ get_or slots k 0) × (get_or slots k 0 ≤ most_slots n)
    = λ k l. from_to 1 (most_slots n) (get_or slots k 0) (every_each (λ j. between 1 (most_slots n) (get_or slots j 0)) (length slots) all k l) in
    record {
      some = some;
      ports = ports;
      same = eqb-true _ _ b;
      count = leb-true (length slots) most_bodies c;
      least = λ k l. (each k l).0;
      most = λ k l. (each k l).1;
    }

module _ (n : ℕ) (firsts slots : List ℕ) where
  pub length_entry : (k : ℕ) → length (entry_bytes (entry_for n firsts slots k)) ≡ 10
  unfolding big_endian
  length_entry k = refl

  pub length_entries : length (entries_for n firsts slots) ≡ length slots * 10
  length_entries = length_parts (λ k. entry_bytes (entry_for n firsts slots k)) 10 length_entry (length slots)

  pub length_contents : length (contents_of n firsts slots) ≡ contents_len (length slots)
  unfolding contents_of big_endian
  length_contents =
      length_checked (head_bytes n (length slots) ++ entries_for n firsts slots)
      ∙ ap (λ (k : ℕ). k + 2) (length-append (head_bytes n (length slots)) (entries_for n firsts slots) ∙ ap (λ (k : ℕ). 3 + k) length_entries)

  pub length_trace : (bodies : List ℕ) → length (trace_of n firsts slots bodies) ≡ trace_len slots bodies
  unfolding trace_of
  length_trace bodies = length-append (contents_of n firsts slots) bodies ∙ rw length_contents

-- ---- a trace

pub record Parts (m n : ℕ) (firsts slots bodies : List ℕ) : Type 0 where
  pub counts : CountsFit m n firsts slots
  pub ends : start_of n slots (length slots) ≡ length bodies
  pub each : (k : ℕ) → k < length slots → body_sound m n (get_or slots k 0) (joined n slots bodies k) ≡ true

-- parts are sound as the bodies joined are, where the counts fit; else they are not
pub bodies_decide : (m n : ℕ) (firsts slots bodies : List ℕ) (b : Bool) → counts_fit m n firsts slots ≡ true
    → b ≡ (eqb (start_of n slots (length slots)) (length bodies) && every (joined_sound m n slots bodies) (length slots)) → parts_sound m n firsts slots bodies ≡ b
unfolding parts_sound
bodies_decide m n firsts slots bodies b e is = rw (e, ← is)

pub no_counts : (m n : ℕ) (firsts slots bodies : List ℕ) → counts_fit m n firsts slots ≡ false → parts_sound m n firsts slots bodies ≡ false
unfolding parts_sound
no_counts m n firsts slots bodies e = rw e

pub parts_sound_lem : (m n : ℕ) (firsts slots bodies : List ℕ) → parts_sound m n firsts slots bodies ≡ true → Parts m n firsts slots bodies
unfolding parts_sound joined_sound
parts_sound_lem m n firsts slots bodies e =
    let (a, e1) = both (counts_fit m n firsts slots) _ e in
    let (b, all) = both (eqb (start_of n slots (length slots)) (length bodies)) _ e1 in
    record { counts = counts_fit_lem m n firsts slots a; ends = eqb-true _ _ b; each = every_each (joined_sound m n slots bodies) (length slots) all }
