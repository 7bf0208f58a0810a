-- A file that is a trace is, byte for byte, what is written of its parts; and its parts can be written. `RoundTrips` says it of the call.
use mathlib.Core.Path.{◌≡◌, sym, ap, ◌∙◌}
use mathlib.Core.Bool.{true}
use mathlib.Core.List.{List, ◌++◌}
use Prim.Native.Nat.{ℕ, zero, suc, ◌+◌, ◌*◌, ◌-◌, ◌≤◌, ◌<◌}
use native.Mathlib.Omega.{arith}
use lib.ListN.{length, get_or, take, drop, length-drop, take-append-drop}
use lib.Seq.{length-take-le, take-take, take-add, drop-drop}
use borrow.Author.Tests.{le-leb, eq-eqb}
use Rattle.laws.specs.Tests.{between}
use Rattle.laws.specs.Bytes.{Bytes}
use Rattle.laws.specs.Parts.{part}
use Rattle.laws.proofs.Bytes.{bytes_take}
use Rattle.laws.proofs.Loops.{same_steps}
use Rattle.laws.proofs.Every.{each_every}
use Rattle.laws.proofs.Tests.{every, in_range}
use Rattle.words.specs.Check.{checked}
use Rattle.words.proofs.CheckLaws.{intact-checked}
use Rattle.trace_parts.specs.Layout.{body_len, contents_len, most_slots, most_bodies}
use Rattle.trace_parts.specs.Contents.{ports_of, count_of, entry_at, entry_of, contents_end, due}
use Rattle.trace_parts.proofs.BodyLaws.{is_sound}
use Rattle.trace_parts.proofs.ContentsLaws.{entry_within}
use Rattle.traces.specs.Trace.{body_at}
use Rattle.traces.proofs.TraceLaws.{Trace}
use Rattle.trace_writer.specs.Parts.{firsts_of, slots_of, bodies_of}
use Rattle.trace_writer.specs.Writer.{start_of, joined, head_bytes, entry_bytes, entry_for, entries_for, contents_of, counts_fit, trace_of, joined_sound, parts_sound}
use Rattle.trace_writer.proofs.Places.{number_there, part_add, parts-of, length_listed, get_d_listed}
use Rattle.trace_writer.proofs.Starts.{start_zero, start_suc}

module _ (m : ℕ) (s : List ℕ) (bytes : Bytes s) (t : Trace m s) where
  abbrev n : ℕ
  n = ports_of s

  abbrev count : ℕ
  count = count_of s

  abbrev firsts : List ℕ
  firsts = firsts_of s

  abbrev slots : List ℕ
  slots = slots_of s

  many : length slots ≡ count
  many = length_listed (λ k. (entry_of s k).slots) count

  slots_at : (k : ℕ) → k < count → get_or slots k 0 ≡ (entry_of s k).slots
  slots_at = get_d_listed (λ k. (entry_of s k).slots) count

  firsts_at : (k : ℕ) → k < count → get_or firsts k 0 ≡ (entry_of s k).first
  firsts_at = get_d_listed (λ k. (entry_of s k).first) count

  -- the offsets are the starts
  due_at : (k : ℕ) → k ≤ count → due s k ≡ contents_len count + start_of n slots k
  unfolding due
  due_at zero h = rw start_zero (omega arith)
  due_at (suc k) h =
      let before = due_at k (omega arith) in
      let here = (t.contents.entries k h).follows in
      rw (start_suc, slots_at k h) (omega arith)

  offset_at : (k : ℕ) → k < count → (entry_of s k).offset ≡ contents_len count + start_of n slots k
  offset_at k l = (t.contents.entries k l).follows ∙ due_at k (omega arith)

  -- an entry is its ten bytes
  entry_at_lem : (k : ℕ) → k < count → entry_bytes (entry_for n firsts slots k) ≡ part (entry_at k) 10 s
  unfolding entry_for entry_of
  entry_at_lem k l =
      let there = entry_within k count (length s) l t.contents.long in
      let at = entry_at k in
      rw (firsts_at k l, slots_at k l, many, ← offset_at k l, number_there 4 at s bytes (omega arith), number_there 2 (at + 4) s bytes (omega arith), number_there 4 (at + 6) s bytes (omega arith), part_add at 4 2 s)
      (part_add at 6 4 s)

  entries_at : entries_for n firsts slots ≡ part 3 (count * 10) s
  entries_at =
      rw many
      (same_steps _ _ _ count (λ k u l. ap (λ (e : List ℕ). u ++ e) (entry_at_lem k l ∙ ap (take 10) (sym (drop-drop (k * 10) 3 s))))
      ∙ parts-of 10 (drop 3 s) count)

  head_at : head_bytes n count ≡ take 3 s
  unfolding ports_of count_of
  head_at =
      let long = t.contents.long in
      rw (number_there 1 0 s bytes (omega arith), number_there 2 1 s bytes (omega arith)) (part_add 0 1 2 s)

  contents_at : contents_of n firsts slots ≡ take (contents_end s) s
  unfolding contents_of
  contents_at =
      let c = t.contents in
      let front = take (contents_end s) s in
      let long : length front ≡ contents_end s = length-take-le (contents_end s) s c.long in
      let less : length front - 2 ≡ 3 + count * 10 = omega arith in
      let before : take (length front - 2) front ≡ head_bytes n count ++ part 3 (count * 10) s =
      rw (less, take-take (3 + count * 10) (contents_end s) s (omega arith), head_at) (take-add 3 (count * 10) s) in
      rw (entries_at, many) (ap checked (sym before) ∙ sym (intact-checked front (bytes_take (contents_end s) s bytes) c.intact))

  pub same_bytes : trace_of n firsts slots (bodies_of s) ≡ s
  unfolding trace_of
  same_bytes = rw contents_at (take-append-drop (contents_end s) s)

  body_at_lem : (k : ℕ) → k < count → joined n slots (bodies_of s) k ≡ body_at s k
  unfolding body_at
  body_at_lem k l = rw (slots_at k l, offset_at k l) (ap (take (body_len n (entry_of s k).slots)) (drop-drop (start_of n slots k) (contents_end s) s))

  joined_at : (k : ℕ) → k < count → joined_sound m n slots (bodies_of s) k ≡ true
  unfolding joined_sound
  joined_at k l = rw (body_at_lem k l, slots_at k l) (is_sound (t.bodies k l))

  slots_fit : (k : ℕ) → k < count → between 1 (most_slots n) (get_or slots k 0) ≡ true
  slots_fit k l = let e = t.contents.entries k l in rw (slots_at k l) (in_range e.least e.most)

  ends_at : start_of n slots count ≡ length (bodies_of s)
  ends_at = omega (arith, t.ends, due_at count (omega arith), length-drop (contents_end s) s, t.contents.long)

  counts_fit_lem : counts_fit m n firsts slots ≡ true
  unfolding counts_fit
  counts_fit_lem =
      rw many
      (every (in_range t.contents.some t.contents.ports)
      (every (eq-eqb (length firsts) count (length_listed (λ k. (entry_of s k).first) count))
      (every (le-leb count most_bodies t.contents.count) (each_every _ count slots_fit))))

  pub parts_fit : parts_sound m n firsts slots (bodies_of s) ≡ true
  unfolding parts_sound
  parts_fit = every counts_fit_lem (rw many (every (eq-eqb _ _ ends_at) (each_every (joined_sound m n slots (bodies_of s)) count joined_at)))
