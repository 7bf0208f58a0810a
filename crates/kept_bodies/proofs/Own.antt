-- Body by body: a program that reads the start of a file and then a body at a time judges and keeps what is salvaged of the whole file. It declines
-- exactly where the whole file is declined (trace_parts `ContentsOwn.start-own`, `start-head`), and buffers of 64 KiB hold what it handles.
use mathlib.Core.Path.{◌≡◌, refl, sym, ap, ◌∙◌}
use mathlib.Core.Bool.{true, cond}
use mathlib.Core.List.{List, []}
use Prim.Native.Nat.{ℕ, ◌≤◌, ◌<◌}
use native.Mathlib.Nat.{le_refl}
use native.Mathlib.Omega.{arith}
use lib.ListN.{length, take}
use borrow.Author.Tests.{lt-ltb}
use Rattle.laws.specs.Parts.{part, parts}
use Rattle.laws.proofs.Loops.{same_steps}
use Rattle.lent.proofs.Writes as lent
use Rattle.refusals.specs.Numbers.{Answer}
use Rattle.frames.specs.Part.{most_ports}
use Rattle.trace_parts.specs.Layout.{most_bodies}
use Rattle.trace_parts.specs.declared.contents.Described.{Described}
use Rattle.trace_parts.specs.Contents.{ports_of, count_of, entry_of, entry_body, described, contents_end, contents_sound, has_entry, read_entry, start_read}
use Rattle.trace_parts.proofs.ContentsLaws.{contents, has_known}
use Rattle.trace_parts.proofs.ContentsOwn.{ports_own, count_own, entry_own, start_is, start_own}
use Rattle.traces.specs.Trace.{body_at}
use Rattle.trace_writer.specs.Writer.{contents_of, contents_number, trace_of}
use Rattle.trace_writer.proofs.Starts.{body_small}
use Rattle.body_fates.specs.declared.judging.Judged.{Judged}
use Rattle.body_fates.specs.Fate.{is_kept}
use Rattle.body_fates.specs.Judged.{judge, fate_of}
use Rattle.kept_bodies.specs.ByBody.{body_read, judged_read, written_read}
use Rattle.salvages.specs.Whole.{judge_at, judged_of}
use Rattle.salvages.specs.Salvage.{if_sound, kept_firsts, kept_slots, salvaged, fate_at}
use Rattle.salvages.proofs.Chosen.{same_parts}
use Rattle.salvages.proofs.Judgements.{Known, judged_known, fate_told}
use Rattle.salvages.proofs.KeptSound.{kept_exactly}
use Rattle.salvages.proofs.Wholes.{known_numbers, many_slots, counts_fit_lem}

module _ (m : ℕ) (s : List ℕ) (sound : contents_sound m s ≡ true) where
  abbrev start : List ℕ
  start = start_read s

  -- the start shows the ports, the body count and the entries of the file
  ports_shown : ports_of start ≡ ports_of s
  ports_shown = rw (start_is m s sound) (ports_own s (contents_end s) (le_refl _))

  pub count_shown : count_of start ≡ count_of s
  count_shown = rw (start_is m s sound) (count_own s (contents_end s) (le_refl _))

  pub entry_shown : (k : ℕ) → k < count_of s → read_entry m start k ≡ record { number = 0; fields = described s k }
  entry_shown k l =
      let has : has_entry m start k ≡ true = has_known (contents m start (start_own m s ∙ sound)) k ∙ lt-ltb k (count_of start) (rw count_shown l) in
      let same : entry_of start k ≡ entry_of s k = rw (start_is m s sound) (entry_own s (contents_end s) (le_refl _) k l) in
      rw (has, same, ports_shown)

  judged_own : judged_read m start s ≡ judged_of m s (count_of s)
  unfolding judge_at body_at
  judged_own =
      rw count_shown
      (same_steps _ _ _ (count_of s)
      (λ k j l.
      ap (λ (e : Answer Described). judge m (ports_of start) e.fields.entry.first e.fields.entry.slots (part e.fields.entry.offset e.fields.len s) j) (entry_shown k l)
      ∙ rw ports_shown))

  known : Known m s (count_of s) (judged_of m s (count_of s))
  known = judged_known m s (count_of s) (contents m s sound).count

  -- every body is judged, and its fate is the body's in the file
  pub judged_all : (judged_read m start s).bodies ≡ count_of s
  judged_all = rw judged_own known.bodies_are

  pub fate-told : (k : ℕ) → k < count_of s → fate_of (judged_read m start s) k ≡ fate_at m s k
  fate-told k l = rw judged_own (fate_told m s (count_of s) _ known (contents m s sound).count k l)

  -- what is written is what is salvaged
  put_own : (k : ℕ) → k < count_of s → cond (is_kept (fate_of (judged_read m start s) k)) (body_read m start s k) [] ≡ if_sound m s (body_at s) k
  unfolding body_at
  put_own k l =
      ap (λ (e : Answer Described). cond (is_kept (fate_of (judged_read m start s) k)) (part e.fields.entry.offset e.fields.len s) []) (entry_shown k l)
      ∙ rw (fate-told k l, kept_exactly m s k)

  pub body_by_body : written_read m start s (judged_read m start s) ≡ salvaged m s
  unfolding salvaged trace_of
  body_by_body =
      let put = ap (parts (λ k. cond (is_kept (fate_of (judged_read m start s) k)) (body_read m start s k) [])) count_shown ∙ same_parts _ _ (count_of s) put_own in
      rw (put, judged_own, ports_shown, known.firsts_are, known.slots_are)

-- a body, and the new contents, fit 64 KiB
module _ (s : List ℕ) (sound : contents_sound most_ports s ≡ true) where
  pub body_fits_lem : (k : ℕ) → k < count_of s → (read_entry most_ports (start_read s) k).fields.len ≤ 65536
  body_fits_lem k l =
      let c = contents most_ports s sound in
      rw (entry_shown most_ports s sound k l) (body_small (ports_of s) (entry_of s k).slots c.ports (c.entries k l).most)

  abbrev j : Judged
  j = judged_read most_ports (start_read s) s

  pub contents_fit : (out : List ℕ) → 65536 ≤ length out
      → contents_number most_ports (ports_of (start_read s)) (take j.kept j.firsts) (take j.kept j.slots) out ≡ 0
  contents_fit out room =
      let c = contents most_ports s sound in
      let kept_firsts_lem = kept_firsts most_ports s (count_of s) in
      let kept_slots_lem = kept_slots most_ports s (count_of s) in
      let few : length kept_slots_lem ≤ most_bodies = omega (arith, many_slots most_ports s, (known_numbers most_ports s).few, c.count) in
      rw (judged_own most_ports s sound, ports_shown most_ports s sound, (known most_ports s sound).firsts_are, (known most_ports s sound).slots_are)
      (sym (lent.wrote _ _ (contents_of (ports_of s) kept_firsts_lem kept_slots_lem) out (counts_fit_lem most_ports s c) (omega arith) _ refl).0)
