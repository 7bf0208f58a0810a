-- What is read of the trace of a capture that is imported, body by body.
use mathlib.Core.Path.{◌≡◌, refl, sym, ap, ◌∙◌}
use mathlib.Core.Bool.{true, false, true≢false}
use mathlib.Core.List.{List, [], ◌∷◌, map}
use Prim.Native.Nat.{ℕ, zero, suc, ◌+◌, ◌*◌, ◌^◌, ◌≤◌, ◌<◌}
use native.Mathlib.Nat.{not-suc-le-zero, le_of_suc-le-suc}
use native.Mathlib.Decide.{dec_lt}
use native.Mathlib.Omega.{arith}
use lib.Dec.{leb, lit<}
use lib.ListN.{length, get_or, drop, length-map, get_or-eq_default}
use Rattle.laws.specs.Bytes.{Bytes}
use Rattle.laws.specs.Steps.{steps}
use Rattle.laws.specs.Parts.{parts}
use Rattle.laws.proofs.Loops.{same_steps}
use Rattle.laws.proofs.Steps.{kept}
use Rattle.laws.proofs.Tests.{arms}
use Rattle.laws.proofs.Bytes.{number_small, bytes_drop, bytes_take}
use Rattle.frames.specs.Part.{most_ports}
use Rattle.trace_parts.specs.Layout.{body_len}
use Rattle.trace_parts.specs.Contents.{ports_of, count_of, entry_of}
use Rattle.trace_parts.specs.Body.{fields_of, body_sound}
use Rattle.trace_parts.proofs.BodyLaws.{sound}
use Rattle.traces.specs.Trace.{body_at, trace_sound}
use Rattle.trace_writer.specs.Writer.{trace_of, entry_for, joined}
use Rattle.trace_writer.proofs.Fitting.{BodyFits, Parts, parts_sound_lem, length_body}
use Rattle.trace_writer.proofs.Joining.{joins, joined_is}
use Rattle.trace_writer.proofs.ReadsBack as back
use Rattle.trace_writer.proofs.SealedBodies as sealed
use Rattle.captures.specs.Capture.{header_len, record_len, is_low, packet_in, packet_of, record_at, records_of}
use Rattle.captures.specs.declared.packet.Packet.{Packet}
use Rattle.import_steps.specs.Taking.{start_number, started}
use Rattle.imports.specs.Cut.{Record, Body, Cut, blocks_of, body_bytes, joined_bytes, joined as one_by_one, all_bodies, uncut, cut}
use Rattle.imports.specs.Import.{firsts_of, counts_of, trace_for, whole_cut, import_answer}
use Rattle.imports.proofs.Good.{Good, sound_all, good_more}
use Rattle.imports.proofs.Whole.{length_counts, counts_fit_lem}
use Rattle.imported.specs.Records.{slot_of}
use Rattle.imported.specs.Trace.{imported, slots_before, after, start_state}
use Rattle.imported.proofs.Calls.{Done, done, good_at, good_whole}
use Rattle.imported.proofs.Runs.{nobody, before, Run, run_none}
use Rattle.imported.proofs.Cutting.{Cutting, run_all, cutting_more}

-- a slot number is a word of four bytes
pub slot_small : (r : Record) → Bytes r → slot_of r < 2 ^ 32
unfolding packet_in packet_of
slot_small r bytes = arms (λ (k : Packet). k.slot < 2 ^ 32) (leb 21 (length r)) (packet_of false r) _ (λ _. number_small 4 0 (drop 16 r) (bytes_drop 16 r bytes)) (λ _. lit< tt)

pub record_bytes : (n : ℕ) (s : List ℕ) → Bytes s → (i : ℕ) → Bytes (record_at n s i)
unfolding record_at
record_bytes n s bytes i = bytes_take (record_len n) (drop (header_len + i * record_len n) s) (bytes_drop (header_len + i * record_len n) s bytes)

module _ (n mode i j : ℕ) (s : List ℕ) (bytes : Bytes s) (zero-start : start_number most_ports n mode i j ≡ 0) where
  first_cut : Cutting n mode (start_state n i j) (uncut (started most_ports n mode i j))
  unfolding started all_bodies before steps after
  first_cut = record { in_mode = refl; state = refl; run = run_none n mode (start_state n i j); now = λ e. absurd (true≢false (sym e)) }

  pub cutting : (count : ℕ) → Cutting n mode (start_state n i j) (cut most_ports (is_low s) n s (started most_ports n mode i j) count)
  unfolding cut steps
  cutting count =
      (kept _ _ (λ _ g. Good n g × Cutting n mode (start_state n i j) g) count
      (λ k g l h. (good_more n (is_low s) (record_at n s k) g h.0, cutting_more n mode (start_state n i j) (is_low s) (record_at n s k) g h.0 h.1 (slot_small _ (record_bytes n s bytes k))))
      (good_at n mode i j s [] zero-start 0, first_cut)).1

-- an element of a mapped list
pub in_map : {A B : Type 0} (f : A → B) (xs : List A) (k : ℕ) (a : A) (b : B) → k < length xs → get_or (map f xs) k b ≡ f (get_or xs k a)
in_map f [] k a b l = absurd (not-suc-le-zero l)
in_map f (x ∷ xs) zero a b l = refl
in_map f (x ∷ xs) (suc k) a b l = in_map f xs k a b (le_of_suc-le-suc l)

module _ (n mode i j : ℕ) (s out : List ℕ) (bytes : Bytes s) (e : (import_answer most_ports n mode i j s out).number ≡ 0) where
  abbrev t : List ℕ
  t = imported most_ports n mode i j s out

  abbrev whole : Cut
  whole = whole_cut most_ports n mode i j s

  abbrev pub bs : List Body
  bs = all_bodies whole

  abbrev body : ℕ → Body
  body c = get_or bs c nobody

  pub finished : Done n mode i j s out
  finished = done n mode i j s out e

  pub is_good : Good n whole
  is_good = good_whole n mode i j s out finished.start

  pub run : Run n mode (start_state n i j) bs
  unfolding whole_cut
  run = run_all n mode (start_state n i j) whole is_good (cutting n mode i j s bytes finished.start (records_of n s))

  abbrev bytes_of : ℕ → List ℕ
  bytes_of c = get_or (map (body_bytes n) bs) c []

  each : (k : ℕ) → k < length (counts_of bs) → body_sound most_ports n (get_or (counts_of bs) k 0) (bytes_of k) ≡ true
  each k l = sound_all n whole is_good k (rw (length_counts bs) at l)

  all_bytes : joined_bytes n bs ≡ parts bytes_of (length (counts_of bs))
  unfolding one_by_one
  all_bytes = ap (parts bytes_of) (length-map bs (body_bytes n) ∙ sym (length_counts bs))

  fits : Parts most_ports n (firsts_of bs) (counts_of bs) (joined_bytes n bs)
  fits = parts_sound_lem most_ports n (firsts_of bs) (counts_of bs) (joined_bytes n bs) (rw all_bytes (joins most_ports n (counts_of bs) bytes_of each (firsts_of bs) (counts_fit_lem n whole is_good)))

  first_small : (k : ℕ) → get_or (firsts_of bs) k 0 < 256 ^ 4
  first_small k = go (dec_lt k (length bs))
    where
      go : Dec (k < length bs) → get_or (firsts_of bs) k 0 < 256 ^ 4
      go (yes l) = rw (in_map (λ (b : Body). b.first) bs k nobody 0 l) (run.told k l).small
      go (no f) = rw (get_or-eq_default (firsts_of bs) 0 {n = k} (omega (arith, length-map bs (λ (b : Body). b.first)))) (lit< tt)

  is_file : t ≡ trace_of n (firsts_of bs) (counts_of bs) (joined_bytes n bs)
  unfolding trace_for
  is_file = finished.trace

  -- it is a trace
  pub is_trace : trace_sound most_ports t ≡ true
  is_trace = rw is_file (back.is_trace n (firsts_of bs) (counts_of bs) (joined_bytes n bs) fits.counts first_small fits)

  pub ports_are : ports_of t ≡ n
  ports_are = rw is_file (back.ports_back n (firsts_of bs) (counts_of bs) (joined_bytes n bs) fits.counts first_small)

  pub bodies_are : count_of t ≡ length bs
  bodies_are = rw is_file (back.count_back n (firsts_of bs) (counts_of bs) (joined_bytes n bs) fits.counts first_small) ∙ length_counts bs

  module _ (c : ℕ) (l : c < length bs) where
    within : c < length (counts_of bs)
    within = rw (length_counts bs) l

    count_at : get_or (counts_of bs) c 0 ≡ length (body c).slots
    count_at = in_map (λ (b : Body). length b.slots) bs c nobody 0 l

    entry_is : entry_of t c ≡ entry_for n (firsts_of bs) (counts_of bs) c
    entry_is = rw is_file (back.entry_back n (firsts_of bs) (counts_of bs) (joined_bytes n bs) fits.counts first_small c within)

    pub first_is : (entry_of t c).first ≡ (body c).first
    unfolding entry_for
    first_is = rw entry_is (in_map (λ (b : Body). b.first) bs c nobody 0 l)

    pub slots_are : (entry_of t c).slots ≡ length (body c).slots
    unfolding entry_for
    slots_are = rw entry_is count_at

    pub body_is : body_at t c ≡ body_bytes n (body c)
    body_is =
        rw is_file (back.body_back n (firsts_of bs) (counts_of bs) (joined_bytes n bs) fits.counts first_small c within)
        ∙ ap (λ (x : List ℕ). joined n (counts_of bs) x c) all_bytes ∙ joined_is most_ports n (counts_of bs) bytes_of each c within
        ∙ in_map (body_bytes n) bs c nobody [] l

    pub body_fits_lem : BodyFits most_ports n (length (body c).slots) (body c).fields (blocks_of n (body c).slots)
    unfolding body_bytes body_len
    body_fits_lem =
        let w = (sound most_ports n _ _ (sound_all n whole is_good c l)).whole in
        let long : length (body_bytes n (body c)) ≡ body_len n (length (body c).slots) = ap length (sym (in_map (body_bytes n) bs c nobody [] l)) ∙ w.long ∙ ap (body_len n) count_at in
        record {
          some = w.some;
          ports = w.ports;
          least = rw (← count_at) w.least;
          most = rw (← count_at) w.most;
          long = omega (arith, long, length_body (body c).fields (blocks_of n (body c).slots));
          form = (run.told c l).form;
        }

    pub fields_are : fields_of (body_at t c) ≡ (body c).fields
    unfolding body_bytes
    fields_are = rw body_is (sealed.fields_back n (length (body c).slots) (body c).fields (blocks_of n (body c).slots) body_fits_lem)

  pub before_are : (c : ℕ) → c ≤ length bs → slots_before t c ≡ before bs c
  unfolding slots_before before
  before_are c h = same_steps _ _ 0 c (λ k q l. ap (λ (x : ℕ). q + x) (slots_are k (omega arith)))
