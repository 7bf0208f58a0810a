-- What is written reads back, and what is read is written back, byte for byte: a body and its fields and blocks, contents and their entries, a
-- trace and its parts.
use mathlib.Core.Path.{◌≡◌, refl, sym, ap, ◌∙◌}
use mathlib.Core.Bool.{true}
use mathlib.Core.List.{List, ◌++◌}
use Prim.Native.Nat.{ℕ, ◌+◌, ◌*◌, ◌^◌, ◌≤◌, ◌<◌}
use lib.ListN.{length, get_or, take, drop}
use Rattle.laws.specs.Bytes.{Bytes}
use Rattle.laws.specs.Parts.{part, parts}
use Rattle.frames.specs.Part.{most_ports}
use Rattle.lent.proofs.Writes.{fitted, front, written_back}
use Rattle.trace_parts.specs.Layout.{block_len, body_len, contents_len}
use Rattle.trace_parts.specs.Contents.{ports_of, contents_sound, file_head, read_entry}
use Rattle.trace_parts.specs.Body.{fields_of, body_sound, read_fields, block_number, block_part}
use Rattle.trace_parts.specs.declared.body.Fields.{Fields}
use Rattle.trace_parts.proofs.BodyLaws.{sound}
use Rattle.traces.specs.Trace.{trace_sound, trace_head, trace_entry, body_number, body_part}
use Rattle.traces.proofs.TraceLaws.{trace}
use Rattle.trace_writer.specs.Sealing.{body_of, seal_number, seal_output}
use Rattle.trace_writer.specs.Writer.{start_of, joined, entry_for, contents_of, contents_number, contents_output, trace_of, trace_len, parts_sound, write_number, write_output}
use Rattle.trace_writer.specs.Parts.{firsts_of, slots_of, bodies_of, blocks_of}
use Rattle.trace_writer.proofs.Fitting.{body_fits_lem, counts_fit_lem, parts_sound_lem, length_contents, length_trace}
use Rattle.trace_writer.proofs.Joining.{joins, joined_is}
use Rattle.trace_writer.proofs.ReadsBack as back
use Rattle.trace_writer.proofs.SealedBodies as sealed
use Rattle.trace_writer.proofs.WritesBack as into

-- ---- a body

-- what its calls read of s
pub record BodyReads (s : List ℕ) (n slots : ℕ) (f : Fields) (blocks : List ℕ) : Type 0 where
  pub sound : body_sound most_ports n slots s ≡ true
  pub fields : read_fields most_ports n s ≡ record { number = 0; fields = f }
  pub all_blocks : blocks_of s ≡ blocks
  pub block : (k : ℕ) → k < slots → (block_number most_ports n slots k s ≡ 0) × (block_part most_ports n slots k s ≡ part (k * block_len n) (block_len n) blocks)

-- what is sealed is a sound body of its fields and blocks
pub body_reads_back : (n slots : ℕ) (f : Fields) (blocks out : List ℕ) → seal_number most_ports n slots f blocks out ≡ 0
    → BodyReads (take (body_len n slots) (seal_output most_ports n slots f blocks out)) n slots f blocks
body_reads_back n slots f blocks out done =
    let fits = body_fits_lem most_ports n slots f blocks (fitted _ (body_len n slots) (body_of f blocks) out done) in
    rw (front _ (body_len n slots) (body_of f blocks) out (sealed.long n slots f blocks fits) done)
    (record {
      sound = sealed.sound_back n slots f blocks fits;
      fields = sealed.read_back n slots f blocks fits;
      all_blocks = sealed.blocks_back n slots f blocks fits;
      block = λ k l. rw (sealed.has_back n slots f blocks fits k l) (refl, sealed.block_back n slots f blocks fits k l);
    })

-- a body is sound only if it is, byte for byte, what is sealed of its fields and blocks
pub body_writes_back : (n slots : ℕ) (s out : List ℕ) → Bytes s → body_sound most_ports n slots s ≡ true → length s ≤ length out
    → (seal_number most_ports n slots (fields_of s) (blocks_of s) out ≡ 0) × (seal_output most_ports n slots (fields_of s) (blocks_of s) out ≡ s ++ drop (length s) out)
body_writes_back n slots s out bytes e room =
    let b = sound most_ports n slots s e in
    written_back _ (body_len n slots) _ out s (sealed.fits_back most_ports n slots s b) (sealed.same_body most_ports n slots s b bytes) b.whole.long room

-- ---- contents

-- what is read of bytes that start with them, and of the start of a file that their last body ends
pub record ContentsRead (s : List ℕ) (n : ℕ) (firsts slots : List ℕ) : Type 0 where
  pub sound : contents_sound most_ports s ≡ true
  pub head : file_head most_ports (contents_len (length slots) + start_of n slots (length slots)) s ≡ record { number = 0; fields = record { ports = n; count = length slots } }
  pub entry : (k : ℕ) → k < length slots → read_entry most_ports s k ≡ record { number = 0; fields = record { entry = entry_for n firsts slots k; len = body_len n (get_or slots k 0) } }

-- contents that are written, and whatever follows them
pub contents_read_back : (n : ℕ) (firsts slots : List ℕ) → ((k : ℕ) → get_or firsts k 0 < 256 ^ 4) → (out rest : List ℕ)
    → contents_number most_ports n firsts slots out ≡ 0
    → ContentsRead (take (contents_len (length slots)) (contents_output most_ports n firsts slots out) ++ rest) n firsts slots
unfolding trace_of
contents_read_back n firsts slots small out rest done =
    let c = counts_fit_lem most_ports n firsts slots (fitted _ (contents_len (length slots)) (contents_of n firsts slots) out done) in
    rw (front _ (contents_len (length slots)) (contents_of n firsts slots) out (length_contents n firsts slots) done)
    (record {
      sound = back.contents_back n firsts slots rest c small;
      head = back.head_back n firsts slots rest c small _ (back.fit_back n firsts slots rest c small);
      entry = λ k l. back.entry_read_back n firsts slots rest c small _ (back.has_back n firsts slots rest c small k l) k l;
    })

-- ---- a trace

-- what is read of a file: ports and count, each entry, and each body
pub record TraceReads (s : List ℕ) (n : ℕ) (firsts slots bodies : List ℕ) : Type 0 where
  pub sound : trace_sound most_ports s ≡ true
  pub head : trace_head most_ports s ≡ record { number = 0; fields = record { ports = n; count = length slots } }
  pub entry : (k : ℕ) → k < length slots → trace_entry most_ports s k ≡ record { number = 0; fields = record { entry = entry_for n firsts slots k; len = body_len n (get_or slots k 0) } }
  pub body : (k : ℕ) → k < length slots → (body_number most_ports s k ≡ 0) × (body_part most_ports s k ≡ joined n slots bodies k)

parts_read : (n : ℕ) (firsts slots bodies : List ℕ) → ((k : ℕ) → get_or firsts k 0 < 256 ^ 4) → parts_sound most_ports n firsts slots bodies ≡ true
    → TraceReads (trace_of n firsts slots bodies) n firsts slots bodies
parts_read n firsts slots bodies small e =
    let p = parts_sound_lem most_ports n firsts slots bodies e in
    let c = p.counts in
    let sound = back.is_trace n firsts slots bodies c small p in
    let has = back.has_body_lem n firsts slots bodies c small p in
    record {
      sound = sound;
      head = back.head_back n firsts slots bodies c small _ sound;
      entry = λ k l. back.entry_read_back n firsts slots bodies c small _ (has k l) k l;
      body = λ k l. rw (has k l) (refl, back.body_back n firsts slots bodies c small k l);
    }

-- what is written is a trace of these parts
pub trace_reads_back : (n : ℕ) (firsts slots bodies : List ℕ) → ((k : ℕ) → get_or firsts k 0 < 256 ^ 4) → (out : List ℕ)
    → write_number most_ports n firsts slots bodies out ≡ 0
    → TraceReads (take (trace_len slots bodies) (write_output most_ports n firsts slots bodies out)) n firsts slots bodies
trace_reads_back n firsts slots bodies small out done =
    rw (front _ (trace_len slots bodies) (trace_of n firsts slots bodies) out (length_trace n firsts slots bodies) done)
    (parts_read n firsts slots bodies small (fitted _ (trace_len slots bodies) (trace_of n firsts slots bodies) out done))

-- contents that are written and sound bodies behind them, one by one, are a trace of these bodies
pub one_by_one : (n : ℕ) (firsts slots : List ℕ) → ((k : ℕ) → get_or firsts k 0 < 256 ^ 4) → (body : ℕ → List ℕ) (out : List ℕ)
    → contents_number most_ports n firsts slots out ≡ 0
    → ((k : ℕ) → k < length slots → body_sound most_ports n (get_or slots k 0) (body k) ≡ true)
    → TraceReads (take (contents_len (length slots)) (contents_output most_ports n firsts slots out) ++ parts body (length slots)) n firsts slots (parts body (length slots))
    × ((k : ℕ) → k < length slots → joined n slots (parts body (length slots)) k ≡ body k)
unfolding trace_of
one_by_one n firsts slots small body out done each =
    let fits = fitted _ (contents_len (length slots)) (contents_of n firsts slots) out done in
    let sound = joins most_ports n slots body each firsts fits in (
      rw (front _ (contents_len (length slots)) (contents_of n firsts slots) out (length_contents n firsts slots) done) (parts_read n firsts slots (parts body (length slots)) small sound),
      joined_is most_ports n slots body each,
    )

-- a file is a trace only if it is, byte for byte, what is written of what is read from it
pub trace_writes_back : (s out : List ℕ) → Bytes s → trace_sound most_ports s ≡ true → length s ≤ length out
    → (write_number most_ports (ports_of s) (firsts_of s) (slots_of s) (bodies_of s) out ≡ 0)
    × (write_output most_ports (ports_of s) (firsts_of s) (slots_of s) (bodies_of s) out ≡ s ++ drop (length s) out)
trace_writes_back s out bytes e room =
    let t = trace most_ports s e in
    let same = into.same_bytes most_ports s bytes t in
    let long : length s ≡ trace_len (slots_of s) (bodies_of s) = ap length (sym same) ∙ length_trace (ports_of s) (firsts_of s) (slots_of s) (bodies_of s) in
    written_back _ (trace_len (slots_of s) (bodies_of s)) _ out s (into.parts_fit most_ports s bytes t) same long room
