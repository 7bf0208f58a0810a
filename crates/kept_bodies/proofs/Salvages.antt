-- What is salvaged is a trace that keeps exactly the sound bodies of the file. A sound trace comes back byte for byte, and salvaging twice
-- equals salvaging once.
use mathlib.Core.Path.{◌≡◌, sym, ap, ◌∙◌}
use mathlib.Core.Bool.{true}
use mathlib.Core.List.{List, [], ◌∷◌}
use Prim.Native.Nat.{ℕ, zero, suc, ◌+◌, ◌-◌, ◌^◌, ◌≤◌, ◌<◌}
use native.Mathlib.Nat.{le_refl}
use native.Mathlib.Decide.{dec_lt}
use native.Mathlib.Omega.{arith}
use lib.Dec.{lit<}
use lib.ListN.{length, get_or, take, drop, length-drop, get_or-eq_default}
use lib.Seq.{take_all, take-add, drop_at, drop-drop}
use Rattle.laws.specs.Steps.{steps}
use Rattle.laws.specs.Parts.{parts}
use Rattle.laws.specs.Bytes.{Bytes}
use Rattle.laws.proofs.Bytes.{bytes_drop, number_small}
use Rattle.frames.specs.Part.{most_ports}
use Rattle.trace_parts.specs.Layout.{body_len, contents_len}
use Rattle.trace_parts.specs.Contents.{ports_of, count_of, entry_at, entry_of, contents_end, due, contents_sound}
use Rattle.trace_parts.proofs.BodyLaws.{is_sound}
use Rattle.trace_parts.proofs.ContentsLaws.{Contents, contents}
use Rattle.traces.specs.Trace.{body_at, sound_at, trace_sound}
use Rattle.traces.proofs.TraceLaws.{Trace, trace}
use Rattle.trace_writer.specs.Parts.{firsts_of, slots_of, bodies_of}
use Rattle.trace_writer.specs.Writer.{entry_for, contents_of, trace_of}
use Rattle.trace_writer.proofs.Fitting.{Parts, length_contents}
use Rattle.trace_writer.proofs.ReadsBack as back
use Rattle.trace_writer.proofs.WritesBack as into
use Rattle.salvages.specs.Salvage.{salvaged}
use Rattle.kept_bodies.specs.Keeps.{SameBody, Keeps}
use Rattle.salvages.proofs.Chosen.{same_parts, all_chosen, by_number}
use Rattle.salvages.proofs.Wholes.{kept_numbers, origin, firsts, slots, bodies, known_numbers, many_firsts, many_slots, first_at, slots_at, kept-parts, body_at_lem}

-- ---- what is salvaged of a file of sound contents

pub first_small : (s : List ℕ) → Bytes s → (k : ℕ) → (entry_of s k).first < 256 ^ 4
unfolding entry_of
first_small s bytes k = number_small 4 0 (drop (entry_at k) s) (bytes_drop (entry_at k) s bytes)

module _ (s : List ℕ) (bytes : Bytes s) (e : contents_sound most_ports s ≡ true) where
  abbrev n : ℕ
  n = ports_of s

  abbrev fs : List ℕ
  fs = firsts most_ports s

  abbrev ss : List ℕ
  ss = slots most_ports s

  abbrev bs : List ℕ
  bs = bodies most_ports s

  known : Contents most_ports s
  known = contents most_ports s e

  fits : Parts most_ports n fs ss bs
  fits = kept-parts most_ports s known

  small : (j : ℕ) → get_or fs j 0 < 256 ^ 4
  small j = go (dec_lt j (length (kept_numbers most_ports s)))
    where
      go : Dec (j < length (kept_numbers most_ports s)) → get_or fs j 0 < 256 ^ 4
      go (yes l) = rw (first_at most_ports s j l) (first_small s bytes _)
      go (no f) = rw (get_or-eq_default fs 0 {n = j} (omega (arith, many_firsts most_ports s))) (lit< tt)

  pub is_trace : trace_sound most_ports (salvaged most_ports s) ≡ true
  unfolding salvaged
  is_trace = back.is_trace n fs ss bs fits.counts small fits

  count_kept : count_of (salvaged most_ports s) ≡ length ss
  unfolding salvaged
  count_kept = back.count_back n fs ss bs fits.counts small

  module _ (j : ℕ) (l : j < length ss) where
    entry_kept : entry_of (salvaged most_ports s) j ≡ entry_for n fs ss j
    unfolding salvaged
    entry_kept = back.entry_back n fs ss bs fits.counts small j l

    numbered : j < length (kept_numbers most_ports s)
    numbered = omega (arith, many_slots most_ports s)

    same_body : SameBody most_ports s (salvaged most_ports s) j (origin most_ports s j)
    unfolding salvaged entry_for
    same_body =
        record {
          there = (known_numbers most_ports s).below j numbered;
          sound = (known_numbers most_ports s).has j numbered;
          first = rw entry_kept (first_at most_ports s j numbered);
          slots = rw entry_kept (slots_at most_ports s j numbered);
          bytes = back.body_back n fs ss bs fits.counts small j l ∙ body_at_lem most_ports s known j l;
        }

  pub keeps : Keeps most_ports s (salvaged most_ports s) (origin most_ports s)
  unfolding salvaged
  keeps =
      record {
        trace = is_trace;
        ports = back.ports_back n fs ss bs fits.counts small;
        each = λ j l. same_body j (rw count_kept at l);
        in_order = λ i j o l. (known_numbers most_ports s).rising i j o (numbered j (rw count_kept at l));
        none_lost = λ i l q. let f = (known_numbers most_ports s).none_lost i l q in (f.0, rw (count_kept, many_slots most_ports s) f.1, f.2);
      }

  -- ---- it is written of its own parts

  pub same_lists : (firsts_of (salvaged most_ports s) ≡ fs) × (slots_of (salvaged most_ports s) ≡ ss)
  same_lists = (
    rw (count_kept, many_slots most_ports s)
        (same_parts _ _ _ (λ j l. ap (λ (x : ℕ). x ∷ []) (same_body j (rw (many_slots most_ports s) l)).first)
        ∙ sym (by_number (sound_at most_ports s) (λ k. (entry_of s k).first ∷ []) (count_of s))),
    rw (count_kept, many_slots most_ports s)
        (same_parts _ _ _ (λ j l. ap (λ (x : ℕ). x ∷ []) (same_body j (rw (many_slots most_ports s) l)).slots)
        ∙ sym (by_number (sound_at most_ports s) (λ k. (entry_of s k).slots ∷ []) (count_of s))),
  )

  pub same_bodies : bodies_of (salvaged most_ports s) ≡ bs
  unfolding salvaged trace_of
  same_bodies = rw count_kept (drop_at (contents_of n fs ss) bs (contents_len (length ss)) (length_contents n fs ss))

  pub same_ports : ports_of (salvaged most_ports s) ≡ n
  same_ports = keeps.ports

-- ---- a sound trace

module _ (m : ℕ) (s : List ℕ) (t : Trace m s) where
  all_sound : (k : ℕ) → k < count_of s → sound_at m s k ≡ true
  unfolding sound_at
  all_sound k l = is_sound (t.bodies k l)

  abbrev end : ℕ
  end = contents_end s

  due-behind : (k : ℕ) → k ≤ count_of s → end ≤ due s k
  unfolding due
  due-behind zero h = le_refl end
  due-behind (suc k) h = omega (arith, due-behind k (omega arith), (t.contents.entries k h).follows)

  joined_up_to : (k : ℕ) → k ≤ count_of s → parts (body_at s) k ≡ take (due s k - end) (drop end s)
  unfolding due steps body_at
  joined_up_to zero h = let none : end - end ≡ 0 = omega arith in rw none
  joined_up_to (suc k) h =
      let follows = (t.contents.entries k h).follows in
      let behind = due-behind k (omega arith) in
      let len = body_len (ports_of s) (entry_of s k).slots in
      let here : (entry_of s k).offset ≡ end + (due s k - end) = omega arith in
      let long : (entry_of s k).offset + len - end ≡ (due s k - end) + len = omega arith in
      rw (joined_up_to k (omega arith), long, take-add (due s k - end) len (drop end s), drop-drop, ← here)

  bodies_joined : parts (body_at s) (count_of s) ≡ bodies_of s
  bodies_joined =
      let behind = due-behind (count_of s) (le_refl _) in
      joined_up_to (count_of s) (le_refl _)
      ∙ take_all (due s (count_of s) - end) (drop end s) (omega (arith, t.ends, length-drop end s))

  pub from_parts : salvaged m s ≡ trace_of (ports_of s) (firsts_of s) (slots_of s) (bodies_of s)
  unfolding salvaged
  from_parts =
      rw (all_chosen (sound_at m s) (λ k. (entry_of s k).first ∷ []) (count_of s) all_sound, all_chosen (sound_at m s) (λ k. (entry_of s k).slots ∷ []) (count_of s) all_sound, all_chosen (sound_at m s) (body_at s) (count_of s) all_sound, bodies_joined)

pub comes_back : (m : ℕ) (s : List ℕ) → Bytes s → trace_sound m s ≡ true → salvaged m s ≡ s
comes_back m s bytes e = let t = trace m s e in from_parts m s t ∙ into.same_bytes m s bytes t

pub twice : (s : List ℕ) → Bytes s → contents_sound most_ports s ≡ true → salvaged most_ports (salvaged most_ports s) ≡ salvaged most_ports s
unfolding salvaged
twice s bytes e =
    let new = trace_of (ports_of s) (firsts most_ports s) (slots most_ports s) (bodies most_ports s) in
    from_parts most_ports new (trace most_ports new (is_trace s bytes e))
    ∙ rw (same_ports s bytes e, (same_lists s bytes e).0, (same_lists s bytes e).1, same_bodies s bytes e)
