-- Resent frames change nothing but their count: the trace is told by the records that are not resent.
use mathlib.Core.Path.{◌≡◌, refl, sym, ap, ◌∙◌}
use mathlib.Core.Bool.{Bool, true, false, cond, true≢false}
use mathlib.Core.List.{List, [], ◌∷◌, ◌++◌, map, map-append}
use Prim.Native.Nat.{ℕ, suc}
use lib.Dec.{eqb}
use lib.ListN.{length}
use borrow.Author.Tests.{eqb-true}
use Rattle.laws.specs.Sets.{has}
use Rattle.laws.specs.Steps.{steps}
use Rattle.laws.proofs.Loops.{same_steps}
use Rattle.laws.proofs.Steps.{kept}
use Rattle.frames.specs.Part.{most_ports}
use Rattle.captures.specs.Capture.{is_low, packet_in, record_at, records_of}
use Rattle.captures.specs.declared.packet.Packet.{Packet}
use Rattle.import_steps.specs.Taking.{Known, started, begun, same_slot, next_slot, new_body, fits, heard, slot_begun, step_number, numbered, taken}
use Rattle.import_steps.specs.Laying.{fields_now}
use Rattle.import_steps.proofs.Fitting.{stepped}
use Rattle.imports.specs.Cut.{Record, host_of, frame_for, block_of, Body, blocks_of, body_bytes, Cut, open_body, all_bodies, uncut, cut_more, cut}
use Rattle.imports.specs.Import.{firsts_of, counts_of, trace_for, whole_cut, import_answer}
use Rattle.imports.proofs.Along.{known_more}
use Rattle.imports.proofs.Blocks.{heard_in, frame_more, frame_resent}
use Rattle.imports.proofs.Lists.{length_snoc}
use Rattle.imports.proofs.Cases.{cases, next_of, new_of, same_cut, next_cut, new_cut}
use Rattle.imports.proofs.Good.{Good, all_open, all_shut, good_more}
use Rattle.imports.proofs.Hosts.{host_known}
use Rattle.imports.proofs.Lists.{joined_map}
use Rattle.imported.specs.Records.{resent_at, kept_of}
use Rattle.imported.specs.Trace.{imported}
use Rattle.imported.proofs.Calls.{done, good_at}
use Rattle.imported.proofs.Resent.{new_kept, same_resent}
use Rattle.imported.proofs.Sorted.{Sorted, sorted_more, sorted_none}

-- records taken one after the other
unfoldable through : Bool → List Record → Cut → Cut
through low [] g = g
through low (r ∷ rs) g = through low rs (cut_more most_ports low r g)

through-more : (low : Bool) (rs : List Record) (r : Record) (g : Cut) → through low (rs ++ (r ∷ [])) g ≡ cut_more most_ports low r (through low rs g)
unfolding through
through-more low [] r g = refl
through-more low (q ∷ rs) r g = through-more low rs r (cut_more most_ports low q g)

-- what is known, but for the count
abbrev quiet : Known → Known
quiet p = record { number = p.number; mode = p.mode; state = p.state; last = p.last; hosts = p.hosts; first = p.first; slots = p.slots; bodies = p.bodies; resent = 0 }

-- ---- a record that is taken

module _ (low : Bool) (r : Record) (g : Cut) (z : step_number most_ports g.known (length r) (packet_in low r) ≡ 0) where
  abbrev k : Packet
  k = packet_in low r

  is_same : same_slot g.known k ≡ true → cut_more most_ports low r g ≡ same_cut g r k
  is_same a = cases low r g (λ x. x ≡ same_cut g r k) (λ other. absurd (other z)) (λ _ _. refl) (λ _ b _. absurd (true≢false (sym a ∙ b))) (λ _ b _. absurd (true≢false (sym a ∙ b)))

  is_next : same_slot g.known k ≡ false → next_slot g.known k ≡ true → cut_more most_ports low r g ≡ next_cut g r k
  is_next a c = cases low r g (λ x. x ≡ next_cut g r k) (λ other. absurd (other z)) (λ _ b. absurd (true≢false (sym b ∙ a))) (λ _ _ _. refl) (λ _ _ d. absurd (true≢false (sym c ∙ d)))

  is_new : same_slot g.known k ≡ false → next_slot g.known k ≡ false → cut_more most_ports low r g ≡ new_cut g r k
  is_new a c = cases low r g (λ x. x ≡ new_cut g r k) (λ other. absurd (other z)) (λ _ b. absurd (true≢false (sym b ∙ a))) (λ _ _ d. absurd (true≢false (sym d ∙ c))) (λ _ _ _. refl)

step_zero : (low : Bool) (r : Record) (g : Cut) → (cut_more most_ports low r g).known.number ≡ 0 → step_number most_ports g.known (length r) (packet_in low r) ≡ 0
unfolding taken numbered
step_zero low r g e = go (eqb number 0) refl
  where
    number : ℕ
    number = step_number most_ports g.known (length r) (packet_in low r)

    go : (b : Bool) → eqb number 0 ≡ b → number ≡ 0
    go true q = eqb-true number 0 q
    go false q = rw q at (ap (λ (p : Known). p.number) (sym (known_more low r g)) ∙ e)

-- ---- two cuts of the same bytes

record Same (n : ℕ) (xs ys : List Body) : Type 0 where
  firsts : firsts_of xs ≡ firsts_of ys
  counts : counts_of xs ≡ counts_of ys
  bytes : map (body_bytes n) xs ≡ map (body_bytes n) ys

same_more : (n : ℕ) (xs ys : List Body) (a b : Body) → Same n xs ys → a.first ≡ b.first → length a.slots ≡ length b.slots → body_bytes n a ≡ body_bytes n b → Same n (xs ++ (a ∷ [])) (ys ++ (b ∷ []))
same_more n xs ys a b s first count bytes = record {
  firsts = map-append (λ (c : Body). c.first) xs (a ∷ []) ∙ rw (s.firsts, first) (sym (map-append (λ (c : Body). c.first) ys (b ∷ [])));
  counts = map-append (λ (c : Body). length c.slots) xs (a ∷ []) ∙ rw (s.counts, count) (sym (map-append (λ (c : Body). length c.slots) ys (b ∷ [])));
  bytes = map-append (body_bytes n) xs (a ∷ []) ∙ rw (s.bytes, bytes) (sym (map-append (body_bytes n) ys (b ∷ [])));
}

same_trace : (n : ℕ) (xs ys : List Body) → Same n xs ys → trace_for n xs ≡ trace_for n ys
unfolding trace_for
same_trace n xs ys s = rw (s.firsts, s.counts, s.bytes)

record Alike (n : ℕ) (g d : Cut) : Type 0 where
  known : quiet g.known ≡ quiet d.known
  bodies : Same n g.bodies d.bodies
  fields : g.fields ≡ d.fields
  many : length g.slots ≡ length d.slots
  blocks : blocks_of n g.slots ≡ blocks_of n d.slots
  frames : (h : ℕ) → frame_for n g.records h ≡ frame_for n d.records h

module _ (n : ℕ) (g d : Cut) (a : Alike n g d) where
  same_block : block_of n g.records ≡ block_of n d.records
  unfolding block_of
  same_block = same_steps _ _ [] n (λ h u _. ap (λ (x : List ℕ). u ++ x) (a.frames h))

  more_slots : length (g.slots ++ (g.records ∷ [])) ≡ length (d.slots ++ (d.records ∷ []))
  more_slots = length_snoc g.slots g.records ∙ ap suc a.many ∙ sym (length_snoc d.slots d.records)

  more_blocks : blocks_of n (g.slots ++ (g.records ∷ [])) ≡ blocks_of n (d.slots ++ (d.records ∷ []))
  more_blocks = joined_map (block_of n) g.slots g.records ∙ rw (a.blocks, same_block) (sym (joined_map (block_of n) d.slots d.records))

  open_bytes : body_bytes n (open_body g) ≡ body_bytes n (open_body d)
  unfolding body_bytes
  open_bytes = rw (a.fields, more_blocks)

  same_begun : begun g.known ≡ begun d.known
  same_begun = ap (λ (p : Known). begun p) a.known

  all_same : Same n (all_bodies g) (all_bodies d)
  all_same = go (begun g.known) refl
    where
      go : (b : Bool) → begun g.known ≡ b → Same n (all_bodies g) (all_bodies d)
      go true e = rw (all_open g e, all_open d (sym same_begun ∙ e)) (same_more n g.bodies d.bodies (open_body g) (open_body d) a.bodies (ap (λ (p : Known). p.first) a.known) more_slots open_bytes)
      go false e = rw (all_shut g e, all_shut d (sym same_begun ∙ e)) a.bodies

  module _ (low : Bool) (r : Record) (good : Good n g) (other : Good n d) where
    abbrev packet : Packet
    packet = packet_in low r

    heard_alike : (h : ℕ) → heard_in g.records h ≡ heard_in d.records h
    heard_alike h = sym (good.held.heard h) ∙ ap (λ (p : Known). has p.hosts h) a.known ∙ other.held.heard h

    alike_same : Alike n (same_cut g r packet) (same_cut d r packet)
    unfolding heard
    alike_same = record {
      known = ap (λ (p : Known). quiet (heard p packet)) a.known;
      bodies = a.bodies;
      fields = a.fields;
      many = a.many;
      blocks = a.blocks;
      frames = λ h. frame_more n g.records r h ∙ rw (heard_alike h, a.frames h) (sym (frame_more n d.records r h));
    }

    alike_next : Alike n (next_cut g r packet) (next_cut d r packet)
    unfolding slot_begun
    alike_next = record { known = ap (λ (p : Known). quiet (next_of p packet)) a.known; bodies = a.bodies; fields = a.fields; many = more_slots; blocks = more_blocks; frames = λ h. refl }

    alike_new : Alike n (new_cut g r packet) (new_cut d r packet)
    unfolding slot_begun
    alike_new = record { known = ap (λ (p : Known). quiet (new_of p packet)) a.known; bodies = all_same; fields = ap (λ (p : Known). fields_now p) a.known; many = refl; blocks = refl; frames = λ h. refl }

    same_number : step_number most_ports g.known (length r) packet ≡ step_number most_ports d.known (length r) packet
    unfolding step_number fits new_body same_slot next_slot
    same_number = ap (λ (p : Known). step_number most_ports p (length r) packet) a.known

    same_same : same_slot g.known packet ≡ same_slot d.known packet
    unfolding same_slot
    same_same = ap (λ (p : Known). same_slot p packet) a.known

    same_next : next_slot g.known packet ≡ next_slot d.known packet
    unfolding next_slot
    same_next = ap (λ (p : Known). next_slot p packet) a.known

    -- a record more in both
    both_more : step_number most_ports g.known (length r) packet ≡ 0 → Alike n (cut_more most_ports low r g) (cut_more most_ports low r d)
    both_more z = go (same_slot g.known packet) refl (next_slot g.known packet) refl
      where
        y : step_number most_ports d.known (length r) packet ≡ 0
        y = sym same_number ∙ z

        go : (b : Bool) → same_slot g.known packet ≡ b → (c : Bool) → next_slot g.known packet ≡ c → Alike n (cut_more most_ports low r g) (cut_more most_ports low r d)
        go true e c f = rw (is_same low r g z e, is_same low r d y (sym same_same ∙ e)) alike_same
        go false e true f = rw (is_next low r g z e f, is_next low r d y (sym same_same ∙ e) (sym same_next ∙ f)) alike_next
        go false e false f = rw (is_new low r g z e f, is_new low r d y (sym same_same ∙ e) (sym same_next ∙ f)) alike_new

    -- a resent record more in one of them
    resent_more : step_number most_ports g.known (length r) packet ≡ 0 → same_slot g.known packet ≡ true → has g.known.hosts packet.host ≡ true → Alike n (cut_more most_ports low r g) d
    unfolding heard
    resent_more z e f = rw (is_same low r g z e) (record {
      known = rw f a.known;
      bodies = a.bodies;
      fields = a.fields;
      many = a.many;
      blocks = a.blocks;
      frames = λ h. frame_resent n g.records r (sym (good.held.heard (host_of r)) ∙ ap (has g.known.hosts) (sym (host_known low r)) ∙ f) h ∙ a.frames h;
    })

-- ---- the records of a capture

good_through : (n : ℕ) (low : Bool) (rs : List Record) (g : Cut) → Good n g → Good n (through low rs g)
unfolding through
good_through n low [] g h = h
good_through n low (r ∷ rs) g h = good_through n low rs (cut_more most_ports low r g) (good_more n low r g h)

module _ (n : ℕ) (s : List ℕ) (low : Bool) (first : Cut) (good-first : Good n first) where
  abbrev only : ℕ → Cut
  only i = through low (kept_of n s i) first

  record Followed (i : ℕ) (g : Cut) : Type 0 where
    in_slots : Sorted n s i g
    alike : Alike n g (only i)

  kept_more : (i : ℕ) → kept_of n s (suc i) ≡ cond (resent_at n s i) (kept_of n s i) (kept_of n s i ++ (record_at n s i ∷ []))
  unfolding kept_of steps
  kept_more i = refl

  followed_more : (i : ℕ) (g : Cut) → Good n g → (g.known.number ≡ 0 → Followed i g) → (cut_more most_ports low (record_at n s i) g).known.number ≡ 0
      → Followed (suc i) (cut_more most_ports low (record_at n s i) g)
  followed_more i g good before e = record { in_slots = sorted_more n s low i g (λ y. (before y).in_slots) e; alike = go (resent_at n s i) refl }
    where
      r : Record
      r = record_at n s i

      z : step_number most_ports g.known (length r) (packet_in low r) ≡ 0
      z = step_zero low r g e

      f : Followed i g
      f = before (stepped most_ports g.known (length r) (packet_in low r) z).number

      of_open : resent_at n s i ≡ true → (b : Bool) → same_slot g.known (packet_in low r) ≡ b → same_slot g.known (packet_in low r) ≡ true
      of_open x true q = q
      of_open x false q = absurd (true≢false (sym x ∙ new_kept n s low i g good f.in_slots q))

      go : (b : Bool) → resent_at n s i ≡ b → Alike n (cut_more most_ports low r g) (only (suc i))
      go true x =
          let same = of_open x (same_slot g.known (packet_in low r)) refl in
          rw (kept_more i, x) (resent_more n g (only i) f.alike low r good (good_through n low (kept_of n s i) first good-first) z same (sym (same_resent n s low i g good f.in_slots same) ∙ x))
      go false x = rw (kept_more i, x, through-more low (kept_of n s i) r first) (both_more n g (only i) f.alike low r good (good_through n low (kept_of n s i) first good-first) z)

module _ (n mode i j : ℕ) (s out : List ℕ) (e : (import_answer most_ports n mode i j s out).number ≡ 0) where
  abbrev start : Cut
  start = uncut (started most_ports n mode i j)

  good_start : Good n start
  unfolding cut steps
  good_start = good_at n mode i j s out (done n mode i j s out e).start 0

  alike_itself : Alike n start start
  alike_itself = record { known = refl; bodies = record { firsts = refl; counts = refl; bytes = refl }; fields = refl; many = refl; blocks = refl; frames = λ h. refl }

  followed : (count : ℕ) → Good n (cut most_ports (is_low s) n s (started most_ports n mode i j) count)
      × ((cut most_ports (is_low s) n s (started most_ports n mode i j) count).known.number ≡ 0 → Followed n s (is_low s) start good_start count (cut most_ports (is_low s) n s (started most_ports n mode i j) count))
  unfolding cut started kept_of steps through
  followed count =
      kept _ _ (λ c g. Good n g × (g.known.number ≡ 0 → Followed n s (is_low s) start good_start c g)) count
      (λ c g l x. (good_more n (is_low s) (record_at n s c) g x.0, followed_more n s (is_low s) start good_start c g x.0 x.1))
      (good_start, λ _. record { in_slots = sorted_none n s (started most_ports n mode i j) refl; alike = alike_itself })

  -- the trace is that of the records that are not resent
  of-kept : imported most_ports n mode i j s out ≡ trace_for n (all_bodies (through (is_low s) (kept_of n s (records_of n s)) start))
  unfolding whole_cut
  of-kept =
      let d = done n mode i j s out e in
      d.trace ∙ same_trace n _ _ (all_same n _ _ ((followed (records_of n s)).1 d.taken).alike)

pub resent_changes_nothing : (n mode i j : ℕ) (s other out room : List ℕ) → (import_answer most_ports n mode i j s out).number ≡ 0 → (import_answer most_ports n mode i j other room).number ≡ 0
    → is_low s ≡ is_low other → kept_of n s (records_of n s) ≡ kept_of n other (records_of n other) → imported most_ports n mode i j s out ≡ imported most_ports n mode i j other room
resent_changes_nothing n mode i j s other out room e f order same =
    of-kept n mode i j s out e ∙ rw (order, same) (sym (of-kept n mode i j other room f))
