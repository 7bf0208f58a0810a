-- Contents that are written are sound before whatever follows them, and have the same ports and entries; with the bodies behind them they are a
-- trace. `RoundTrips` says it of the calls.
use mathlib.Core.Path.{◌≡◌, refl, sym, ap, ◌∙◌}
use mathlib.Core.Bool.{Bool, true}
use mathlib.Core.List.{List, ◌++◌, append_assoc}
use Prim.Native.Nat.{ℕ, zero, suc, ◌+◌, ◌*◌, ◌^◌, ◌≤◌, ◌<◌}
use native.Mathlib.Omega.{arith}
use lib.Dec.{lit<}
use lib.ListN.{length, get_or, take, drop, take-append-drop}
use lib.Seq.{take_at, drop_at, drop-drop}
use borrow.Author.Tests.{le-leb, lt-ltb, eq-eqb}
use Rattle.laws.specs.Bytes.{big_endian}
use Rattle.laws.proofs.Parts.{part_at, part_before}
use Rattle.laws.proofs.Every.{each_every}
use Rattle.laws.proofs.Tests.{every, in_range}
use Rattle.words.specs.Check.{crc_of, intact}
use Rattle.words.proofs.CheckLaws.{checked-intact}
use Rattle.frames.specs.Part.{most_ports}
use Rattle.trace_parts.specs.Layout.{body_len, contents_len, most_slots, most_bodies}
use Rattle.trace_parts.specs.Contents.{ports_of, count_of, entry_at, entry_of, due, entry_sound, contents_sound, contents_fit, head_if, has_entry, entry_if}
use Rattle.trace_parts.proofs.ContentsLaws.{entry_within}
use Rattle.traces.specs.Trace.{body_at, sound_at, trace_sound, has_body}
use Rattle.trace_writer.specs.Writer.{start_of, joined, head_bytes, entry_bytes, entry_for, entries_for, contents_of, trace_of}
use Rattle.trace_writer.proofs.Places.{number_at_lem, after}
use Rattle.trace_writer.proofs.Starts.{start_zero, start_suc, start_small}
use Rattle.trace_writer.proofs.Fitting.{CountsFit, Parts, length_entry, length_contents, length_trace}

most_slots_small : (n : ℕ) → most_slots n < 256 ^ 2
unfolding most_slots
most_slots_small n = lit< tt

module _ (n : ℕ) (firsts slots bodies : List ℕ) (c : CountsFit most_ports n firsts slots) (small : (k : ℕ) → get_or firsts k 0 < 256 ^ 4) where
  abbrev count : ℕ
  count = length slots

  abbrev file : List ℕ
  file = trace_of n firsts slots bodies

  abbrev rest : List ℕ
  rest = big_endian 2 (crc_of (head_bytes n count ++ entries_for n firsts slots)) ++ bodies

  flat : file ≡ big_endian 1 n ++ (big_endian 2 count ++ (entries_for n firsts slots ++ rest))
  unfolding trace_of contents_of
  flat = simp append_assoc

  pub ports_back : ports_of file ≡ n
  unfolding ports_of
  ports_back = number_at_lem 1 n 0 file _ flat (omega (arith, c.ports))

  one : drop 1 file ≡ big_endian 2 count ++ (entries_for n firsts slots ++ rest)
  one = after 1 n 0 file _ flat

  pub count_back : count_of file ≡ count
  unfolding count_of
  count_back = number_at_lem 2 count 1 file _ one (omega (arith, c.count))

  three : drop 3 file ≡ entries_for n firsts slots ++ rest
  three = after 2 count 1 file _ one

  module _ (k : ℕ) (l : k < count) where
    abbrev offset : ℕ
    offset = contents_len count + start_of n slots k

    offset_small : offset < 256 ^ 4
    offset_small = omega (arith, c.count, start_small n slots k c.ports (λ j i. c.most j (omega arith)))

    abbrev beyond : List ℕ
    beyond = drop 10 (drop (entry_at k) file)

    at_entry : drop (entry_at k) file ≡ big_endian 4 (get_or firsts k 0) ++ (big_endian 2 (get_or slots k 0) ++ (big_endian 4 offset ++ beyond))
    unfolding entry_for
    at_entry =
        let entries : ℕ → List ℕ = λ j. entry_bytes (entry_for n firsts slots j) in
        let here : take 10 (drop (entry_at k) file) ≡ entry_bytes (entry_for n firsts slots k) =
        ap (take 10) (sym (drop-drop (k * 10) 3 file) ∙ ap (drop (k * 10)) three)
        ∙ part_before entries 10 (length_entry n firsts slots) count k rest l
        ∙ part_at entries 10 (length_entry n firsts slots) count k l in
        sym (take-append-drop 10 (drop (entry_at k) file)) ∙ ap (λ (h : List ℕ). h ++ beyond) here ∙ simp append_assoc

    at_slots : drop (entry_at k + 4) file ≡ big_endian 2 (get_or slots k 0) ++ (big_endian 4 offset ++ beyond)
    at_slots = after 4 (get_or firsts k 0) (entry_at k) file _ at_entry

    at_offset : drop (entry_at k + 6) file ≡ big_endian 4 offset ++ beyond
    at_offset =
        let six : entry_at k + 4 + 2 ≡ entry_at k + 6 = omega arith in
        rw six at (after 2 (get_or slots k 0) (entry_at k + 4) file _ at_slots)

    pub entry_back : entry_of file k ≡ entry_for n firsts slots k
    unfolding entry_of entry_for
    entry_back =
        let a = number_at_lem 4 (get_or firsts k 0) (entry_at k) file _ at_entry (small k) in
        let b = number_at_lem 2 (get_or slots k 0) (entry_at k + 4) file _ at_slots (omega (arith, c.most k l, most_slots_small n)) in
        let c = number_at_lem 4 offset (entry_at k + 6) file beyond at_offset offset_small in
        λ i. record { first = a i; slots = b i; offset = c i }

  -- where body k has to start
  due_back : (k : ℕ) → k ≤ count → due file k ≡ contents_len count + start_of n slots k
  unfolding due entry_for
  due_back zero h = rw (count_back, start_zero) (omega arith)
  due_back (suc k) h = rw (ports_back, entry_back k h, start_suc) (omega arith)

  front : length (contents_of n firsts slots) ≡ contents_len count
  front = length_contents n firsts slots

  pub body_back : (k : ℕ) → k < count → body_at file k ≡ joined n slots bodies k
  unfolding body_at trace_of entry_for
  body_back k l =
      rw (ports_back, entry_back k l)
      (ap (take (body_len n (get_or slots k 0)))
      (sym (drop-drop (start_of n slots k) (contents_len count) file) ∙ ap (drop (start_of n slots k)) (drop_at (contents_of n firsts slots) bodies (contents_len count) front)))

  long : length file ≡ contents_len count + length bodies
  long = length_trace n firsts slots bodies

  entry_sound_lem : (k : ℕ) → k < count → entry_sound file k ≡ true
  unfolding entry_sound entry_for
  entry_sound_lem k l =
      rw (ports_back, entry_back k l, due_back k (omega arith))
      (every (in_range (c.least k l) (c.most k l)) (eq-eqb (contents_len count + start_of n slots k) _ refl))

  contents_intact : intact (take (contents_len count) file) ≡ true
  unfolding trace_of contents_of
  contents_intact = rw (take_at (contents_of n firsts slots) bodies (contents_len count) front) (checked-intact (head_bytes n (length slots) ++ entries_for n firsts slots))

  pub contents_back : contents_sound most_ports file ≡ true
  unfolding contents_sound
  contents_back =
      rw (count_back, ports_back)
      (every (le-leb (contents_len count) (length file) (rw long (omega arith)))
      (every contents_intact
      (every (in_range c.some c.ports)
      (every (le-leb count most_bodies c.count) (each_every (entry_sound file) count entry_sound_lem)))))

  -- of a file that ends where the last body does
  pub fit_back : contents_fit most_ports (contents_len count + start_of n slots count) file ≡ true
  unfolding contents_fit
  fit_back = every contents_back (rw count_back (eq-eqb _ _ (due_back count (omega arith))))

  pub has_back : (k : ℕ) → k < count → has_entry most_ports file k ≡ true
  unfolding has_entry
  has_back k l =
      rw (ports_back, count_back)
      (every (le-leb (entry_at k + 10) (length file) (entry_within k count (length file) l (rw long (omega arith)))) (every (in_range c.some c.ports) (lt-ltb k count l)))

  -- what a call answers whose test holds
  pub head_back : (b : Bool) → b ≡ true → head_if b file ≡ record { number = 0; fields = record { ports = n; count = count } }
  head_back b e = rw (e, ports_back, count_back)

  pub entry_read_back : (b : Bool) → b ≡ true → (k : ℕ) → k < count → entry_if b file k ≡ record { number = 0; fields = record { entry = entry_for n firsts slots k; len = body_len n (get_or slots k 0) } }
  unfolding entry_for
  entry_read_back b e k l = rw (e, ports_back, entry_back k l)

  module _ (p : Parts most_ports n firsts slots bodies) where
    sound_back : (k : ℕ) → k < count → sound_at most_ports file k ≡ true
    unfolding sound_at entry_for
    sound_back k l = rw (body_back k l, ports_back, entry_back k l) (p.each k l)

    pub is_trace : trace_sound most_ports file ≡ true
    unfolding trace_sound
    is_trace =
        let fits : contents_fit most_ports (length file) file ≡ true = rw (long, ← p.ends) fit_back in
        rw count_back (every fits (each_every (sound_at most_ports file) count sound_back))

    pub has_body_lem : (k : ℕ) → k < count → has_body most_ports file k ≡ true
    unfolding has_body
    has_body_lem k l = rw count_back (every is_trace (lt-ltb k count l))
