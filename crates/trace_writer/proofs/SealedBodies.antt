-- A body that is sealed is sound and has its fields and blocks; and a sound body is, byte for byte, what is sealed of them. `RoundTrips` says it
-- of the calls.
use mathlib.Core.Path.{◌≡◌, refl, sym, ap, ◌∙◌}
use mathlib.Core.Bool.{true}
use mathlib.Core.List.{List, ◌++◌, append_assoc}
use Prim.Native.Nat.{ℕ, ◌+◌, ◌*◌, ◌-◌, ◌^◌, ◌≤◌, ◌<◌}
use native.Mathlib.Nat.{mul-le-mul_right, suc-mul}
use native.Mathlib.Omega.{arith}
use lib.Dec.{ltb, leb}
use lib.ListN.{length, take, drop, length-drop}
use lib.Seq.{take-add, take_at, drop-drop, length-take-le}
use borrow.Author.Tests.{leb-true, ltb-true, le-leb, lt-ltb, eq-eqb}
use Rattle.laws.specs.Bytes.{Bytes, big_endian}
use Rattle.laws.specs.Parts.{part}
use Rattle.laws.proofs.Parts.{part_own}
use Rattle.laws.proofs.Tests.{both, every, in_range}
use Rattle.words.specs.Check.{crc_of, checked, intact}
use Rattle.words.proofs.CheckLaws.{checked-intact, intact-checked}
use Rattle.frames.specs.Part.{most_ports}
use Rattle.trace_parts.specs.Layout.{block_len, body_len, most_mode}
use Rattle.trace_parts.specs.Body.{fields_of, formed, body_sound, read_fields, block_at, has_block}
use Rattle.trace_parts.specs.declared.body.Fields.{Fields}
use Rattle.trace_parts.proofs.BodyLaws.{Complete, is_complete, Sound, is_sound, least_body}
use Rattle.trace_writer.specs.Parts.{blocks_of}
use Rattle.trace_writer.specs.Sealing.{field_bytes, body_of, body_fits}
use Rattle.trace_writer.proofs.Fitting.{BodyFits, length_body}
use Rattle.trace_writer.proofs.Places.{number_at_lem, after, number_there, part_add}

-- fields of proper form are a byte each
record Small (f : Fields) : Type 0 where
  mode : f.mode < 256 ^ 1
  initiator : f.initiator < 256 ^ 1
  target : f.target < 256 ^ 1

small_fields : (n : ℕ) (f : Fields) → n ≤ most_ports → formed n f ≡ true → Small f
unfolding formed most_mode
small_fields n f h e =
    let (a, e1) = both (leb f.mode (most_mode n)) _ e in
    let (b, c) = both (ltb f.initiator n) _ e1 in
    record {
      mode = omega (arith, leb-true f.mode (most_mode n) a);
      initiator = omega (arith, ltb-true f.initiator n b);
      target = omega (arith, ltb-true f.target n c);
    }

module _ (n slots : ℕ) (f : Fields) (blocks : List ℕ) (fits : BodyFits most_ports n slots f blocks) where
  abbrev body : List ℕ
  body = body_of f blocks

  abbrev last : List ℕ
  last = blocks ++ big_endian 2 (crc_of (field_bytes f ++ blocks))

  flat : body ≡ big_endian 1 f.mode ++ (big_endian 1 f.initiator ++ (big_endian 1 f.target ++ last))
  unfolding body_of
  flat = simp append_assoc

  one : drop 1 body ≡ big_endian 1 f.initiator ++ (big_endian 1 f.target ++ last)
  one = after 1 f.mode 0 body _ flat

  two : drop 2 body ≡ big_endian 1 f.target ++ last
  two = after 1 f.initiator 1 body _ one

  three : drop 3 body ≡ last
  three = after 1 f.target 2 body _ two

  pub fields_back : fields_of body ≡ f
  unfolding fields_of
  fields_back =
      let small = small_fields n f fits.ports fits.form in
      let a = number_at_lem 1 f.mode 0 body _ flat small.mode in
      let b = number_at_lem 1 f.initiator 1 body _ one small.initiator in
      let c = number_at_lem 1 f.target 2 body _ two small.target in
      λ i. record { mode = a i; initiator = b i; target = c i }

  held : take (length blocks) (drop 3 body) ≡ blocks
  held = rw three (take_at blocks _ (length blocks) refl)

  pub blocks_back : blocks_of body ≡ blocks
  blocks_back =
      let all : length body - 3 - 2 ≡ length blocks = omega (arith, length_body f blocks) in
      rw all held

  body_intact : intact body ≡ true
  unfolding body_of
  body_intact = checked-intact (field_bytes f ++ blocks)

  pub long : length body ≡ body_len n slots
  unfolding body_len
  long = length_body f blocks ∙ ap (λ (k : ℕ). 3 + k + 2) fits.long

  whole : Complete most_ports n slots body
  whole = record { some = fits.some; ports = fits.ports; least = fits.least; most = fits.most; long = long }

  pub sound_back : body_sound most_ports n slots body ≡ true
  sound_back = is_sound (record { whole = whole; intact = body_intact; form = rw fields_back fits.form })

  -- what the calls read
  pub read_back : read_fields most_ports n body ≡ record { number = 0; fields = f }
  unfolding read_fields
  read_back =
      let some : leb 3 (length body) ≡ true = le-leb 3 (length body) (omega (arith, length_body f blocks)) in
      rw (fields_back, in_range fits.some fits.ports, some, fits.form)

  pub has_back : (k : ℕ) → k < slots → has_block most_ports n slots k body ≡ true
  unfolding has_block
  has_back k l = every (is_complete whole) (lt-ltb k slots l)

  pub block_back : (k : ℕ) → k < slots → part (block_at n k) (block_len n) body ≡ part (k * block_len n) (block_len n) blocks
  block_back k l =
      let b = block_len n in
      let within : k * b + b ≤ length blocks = rw fits.long (omega (arith, mul-le-mul_right b l, suc-mul k b)) in
      ap (take b) (sym (drop-drop (k * b) 3 body)) ∙ sym (part_own (k * b) b (length blocks) (drop 3 body) within) ∙ ap (part (k * b) b) held

-- the fields and blocks of a sound body fit, and are its bytes
module _ (m n slots : ℕ) (s : List ℕ) (h : Sound m n slots s) where
  pub fits_back : body_fits m n slots (fields_of s) (blocks_of s) ≡ true
  unfolding body_fits body_len
  fits_back =
      let whole = h.whole in
      let long : length (blocks_of s) ≡ slots * block_len n =
      length-take-le (length s - 3 - 2) (drop 3 s) (rw length-drop (omega arith)) ∙ omega (arith, whole.long) in
      every (in_range whole.some whole.ports) (every (in_range whole.least whole.most) (every (eq-eqb _ _ long) h.form))

  pub same_body : Bytes s → body_of (fields_of s) (blocks_of s) ≡ s
  unfolding body_of fields_of
  same_body bytes =
      let least = least_body n slots in
      let long = h.whole.long in
      let rest : length s - 2 ≡ 3 + (length s - 3 - 2) = omega arith in
      let front : take (length s - 2) s ≡ take 3 s ++ blocks_of s = rw rest (take-add 3 (length s - 3 - 2) s) in
      rw (number_there 1 0 s bytes (omega arith), number_there 1 1 s bytes (omega arith), number_there 1 2 s bytes (omega arith), part_add 0 1 1 s, part_add 0 2 1 s)
      (ap checked (sym front) ∙ sym (intact-checked s bytes h.intact))
