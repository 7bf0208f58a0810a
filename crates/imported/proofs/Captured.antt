-- The blocks of what is imported hold, for each slot and host, the first frame captured and nothing else.
use mathlib.Core.Path.{◌≡◌, refl, sym, ap, ◌∙◌}
use mathlib.Core.List.{List, [], ◌++◌, map}
use Prim.Native.Nat.{ℕ, zero, suc, ◌+◌, ◌*◌, ◌-◌, ◌/◌, ◌%◌, ◌^◌, ◌≤◌, ◌<◌}
use native.Mathlib.Nat.{le_refl, mul-le-mul_right, suc-mul}
use native.Mathlib.Decide.{dec_lt}
use native.Mathlib.Omega.{arith}
use lib.Dec.{leb}
use lib.ListN.{length, get_or, take, drop, length-append, length-map, length-drop, get_or-append, get_or-eq_default, take-append-drop}
use lib.Seq.{take-suc, take-length, get_or-append-add, drop-drop, length-take-le, drop-cons}
use borrow.Author.Tests.{leb-true}
use Rattle.laws.specs.Bytes.{Bytes}
use Rattle.laws.specs.Steps.{steps}
use Rattle.laws.specs.Parts.{part, parts}
use Rattle.laws.proofs.Loops.{same_steps}
use Rattle.laws.proofs.Parts.{part_own, part_at}
use Rattle.laws.proofs.Tests.{both}
use Rattle.frames.specs.Part.{most_ports, frame_len}
use Rattle.trace_parts.specs.Layout.{block_len}
use Rattle.trace_parts.specs.Contents.{count_of, entry_of}
use Rattle.trace_parts.specs.Body.{block_at}
use Rattle.trace_writer.proofs.SealedBodies as sealed
use Rattle.captures.specs.Capture.{header_len, record_len, is_low, header_sound, records_of, record_at}
use Rattle.import_steps.specs.Taking.{started}
use Rattle.imports.specs.Cut.{Record, Body, frame_for, block_of, joined, blocks_of, body_bytes}
use Rattle.imports.specs.Import.{whole_cut, import_answer}
use Rattle.imports.proofs.Blocks.{framed_none, length_block, unheard_zeros}
use Rattle.imports.proofs.Files.{records_within}
use Rattle.imported.specs.Records.{slot_at, turn, of_slot}
use Rattle.imported.specs.Trace.{imported, slots_before, frame_at}
use Rattle.imported.specs.Imports.{Captured}
use Rattle.imported.proofs.Runs.{nobody, before, total}
use Rattle.imported.proofs.Sorted.{slots_in, slots_join, slots_more, Sorted, sorted}
use Rattle.imported.proofs.Turns.{has_record, number_of, heard_none, first_frame, framed}
use Rattle.imported.proofs.Told as told

-- ---- where slot k of body c stands among the slots of all

module _ (bs : List Body) where
  before_length : (c : ℕ) → c ≤ length bs → length (slots_in (take c bs)) ≡ before bs c
  unfolding before steps slots_in
  before_length zero h = refl
  before_length (suc c) h =
      ap (λ (x : List Body). length (slots_in x)) (take-suc bs c nobody h)
      ∙ ap length (slots_more (take c bs) (get_or bs c nobody))
      ∙ length-append (slots_in (take c bs)) (get_or bs c nobody).slots
      ∙ ap (λ (x : ℕ). x + length (get_or bs c nobody).slots) (before_length c (omega arith))

  pub total_length : length (slots_in bs) ≡ total bs
  total_length = ap (λ (x : List Body). length (slots_in x)) (sym (take-length bs)) ∙ before_length (length bs) (le_refl _)

  pub slot_among : (c k : ℕ) → c < length bs → k < length (get_or bs c nobody).slots → get_or (slots_in bs) (before bs c + k) [] ≡ get_or (get_or bs c nobody).slots k []
  unfolding slots_in
  slot_among c k l h =
      ap (λ (x : List Body). get_or (slots_in x) (before bs c + k) []) (sym (take-append-drop c bs))
      ∙ ap (λ (x : List (List Record)). get_or x (before bs c + k) []) (slots_join (take c bs) (drop c bs))
      ∙ ap (λ (x : ℕ). get_or (slots_in (take c bs) ++ slots_in (drop c bs)) (x + k) []) (sym (before_length c (omega arith)))
      ∙ get_or-append-add (slots_in (take c bs)) (slots_in (drop c bs)) k []
      ∙ ap (λ (x : List Body). get_or (slots_in x) k []) (drop-cons bs c nobody l)
      ∙ get_or-append (get_or bs c nobody).slots (slots_in (drop (suc c) bs)) [] k h

  slot_below : (c : ℕ) → c < length bs → before bs c + length (get_or bs c nobody).slots ≤ length (slots_in bs)
  unfolding slots_in
  slot_below c l =
      let here = (get_or bs c nobody).slots in
      let rest = slots_in (drop (suc c) bs) in
      let parted : length (slots_in bs) ≡ length (slots_in (take c bs)) + length (here ++ rest) =
      ap (λ (x : List Body). length (slots_in x)) (sym (take-append-drop c bs)) ∙ ap length (slots_join (take c bs) (drop c bs))
      ∙ length-append (slots_in (take c bs)) (slots_in (drop c bs)) ∙ ap (λ (x : List Body). length (slots_in (take c bs)) + length (slots_in x)) (drop-cons bs c nobody l) in
      omega (arith, parted, length-append here rest, before_length c (omega arith))

-- ---- the frame of host h in slot k of blocks

blocks_are : (n : ℕ) (slots : List (List Record)) → blocks_of n slots ≡ parts (λ k. block_of n (get_or slots k [])) (length slots)
unfolding joined
blocks_are n slots =
    ap (parts (λ k. get_or (map (block_of n) slots) k [])) (length-map slots (block_of n))
    ∙ same_steps _ _ [] (length slots) (λ k u l. ap (λ (x : List ℕ). u ++ x) (told.in_map (block_of n) slots k [] [] l))

module _ (n : ℕ) (slots : List (List Record)) (each : (k : ℕ) → k < length slots → (h : ℕ) → length (frame_for n (get_or slots k []) h) ≡ frame_len n) where
  whole : (k h : ℕ) → length (frame_for n (get_or slots k []) h) ≡ frame_len n
  whole k h = go (dec_lt k (length slots))
    where
      go : Dec (k < length slots) → length (frame_for n (get_or slots k []) h) ≡ frame_len n
      go (yes l) = each k l h
      go (no f) = rw (get_or-eq_default slots [] {n = k} (omega arith)) (framed_none n h)

  block_is : (k : ℕ) → k < length slots → part (k * block_len n) (block_len n) (blocks_of n slots) ≡ block_of n (get_or slots k [])
  block_is k l = rw (blocks_are n slots) (part_at (λ k. block_of n (get_or slots k [])) (block_len n) (λ k. length_block n (get_or slots k []) (whole k)) (length slots) k l)

  frame_is : (k h : ℕ) → h < n → part (h * frame_len n) (frame_len n) (block_of n (get_or slots k [])) ≡ frame_for n (get_or slots k []) h
  unfolding block_of
  frame_is k h l = part_at (frame_for n (get_or slots k [])) (frame_len n) (whole k) n h l

-- a part of a part
part_in : (at len from w : ℕ) (s : List ℕ) → from + w ≤ len → part from w (part at len s) ≡ part (at + from) w s
part_in at len from w s h = part_own from w len (drop at s) h ∙ ap (take w) (drop-drop from at s)

module _ (n mode i j : ℕ) (s out : List ℕ) (bytes : Bytes s) (e : (import_answer most_ports n mode i j s out).number ≡ 0) where
  abbrev t : List ℕ
  t = imported most_ports n mode i j s out

  abbrev bs : List Body
  bs = told.bs n mode i j s out bytes e

  abbrev body : ℕ → Body
  body b = get_or bs b nobody

  abbrev N : ℕ
  N = records_of n s

  in_slots : Sorted n s N (whole_cut most_ports n mode i j s)
  unfolding whole_cut started
  in_slots = sorted n s (is_low s) (started most_ports n mode i j) refl N (told.finished n mode i j s out bytes e).taken

  -- the records are whole
  record_long : (k : ℕ) → k < N → length (record_at n s k) ≡ record_len n
  unfolding record_at records_of header_sound
  record_long k l =
      let (head, _) = both (leb header_len (length s)) _ (told.finished n mode i j s out bytes e).header in
      let within = records_within n n (record_len n) s refl refl (leb-true header_len (length s) head) in
      let upto : suc k * record_len n ≤ (length s - header_len) / record_len n * record_len n = mul-le-mul_right (record_len n) l in
      length-take-le (record_len n) (drop (header_len + k * record_len n) s) (rw length-drop (omega (arith, suc-mul k (record_len n))))

  module _ (b k : ℕ) (l : b < count_of t) (m : k < (entry_of t b).slots) where
    abbrev q : ℕ
    q = slots_before t b + k

    there : b < length bs
    there = rw (told.bodies_are n mode i j s out bytes e) at l

    inside : k < length (body b).slots
    inside = rw (told.slots_are n mode i j s out bytes e b there) at m

    place : q ≡ before bs b + k
    place = ap (λ (x : ℕ). x + k) (told.before_are n mode i j s out bytes e b (omega (arith, there)))

    records_are : get_or (body b).slots k [] ≡ of_slot n s q N
    records_are = sym (slot_among bs b k there inside) ∙ in_slots.each (before bs b + k) ∙ ap (λ (x : ℕ). of_slot n s x N) (sym place)

    number_is : (x : ℕ) → x < N → turn n s x ≡ q → slot_at n s x ≡ ((entry_of t b).first + k) % 2 ^ 32
    number_is x h turn_is =
        rw (told.first_is n mode i j s out bytes e b there)
        (number_of n s q _ N (rw records_are at (((told.run n mode i j s out bytes e).told b there).numbers k inside)) x h turn_is)

    -- all slots of the body have whole frames
    all_framed : (d : ℕ) → d < length (body b).slots → (h : ℕ) → length (frame_for n (get_or (body b).slots d []) h) ≡ frame_len n
    all_framed d h = rw (sym (slot_among bs b d there h) ∙ in_slots.each (before bs b + d)) (framed n s (before bs b + d) N record_long)

    frame_of : (h : ℕ) → h < n → frame_at t b k h ≡ frame_for n (of_slot n s q N) h
    unfolding frame_at body_bytes block_len
    frame_of h below =
        let fits = told.body_fits_lem n mode i j s out bytes e b there in
        let w = frame_len n in
        let row : h * w + w ≤ n * w = omega (arith, mul-le-mul_right w below, suc-mul h w) in
        rw (told.ports_are n mode i j s out bytes e, told.body_is n mode i j s out bytes e b there)
        (sym (part_in (block_at n k) (n * w) (h * w) w (body_bytes n (body b)) row)
        ∙ ap (part (h * w) w) (sealed.block_back n (length (body b).slots) (body b).fields (blocks_of n (body b).slots) fits k inside ∙ block_is n (body b).slots all_framed k inside)
        ∙ frame_is n (body b).slots all_framed k h below
        ∙ ap (λ (rs : List Record). frame_for n rs h) records_are)

    some_record : (x : ℕ) × (x < N) × (turn n s x ≡ q)
    some_record = has_record n s N q (rw (place, ← in_slots.many) (omega (arith, slot_below bs b there, inside)))

  pub captured : Captured n s t
  captured = record {
    all = ap (slots_before t) (told.bodies_are n mode i j s out bytes e) ∙ told.before_are n mode i j s out bytes e (length bs) (le_refl _) ∙ sym (total_length bs) ∙ in_slots.many;
    some = some_record;
    number = λ b k x l m. number_is b k l m x;
    first = λ b k h x l m below f. frame_of b k l m h below ∙ first_frame n s _ h x f.turn_of_slot f.of_host f.none_before N f.there;
    absent = λ b k h l m below none. frame_of b k l m h below ∙ unheard_zeros n _ h (heard_none n s _ h N none);
  }
