-- What holds of a capture that is cut, record after record.
use mathlib.Core.Path.{◌≡◌, refl, sym, ap, ◌∙◌}
use mathlib.Core.Bool.{Bool, true, false, cond, true≢false}
use mathlib.Core.List.{List, [], ◌∷◌, ◌++◌}
use Prim.Native.Nat.{ℕ, suc, ◌+◌, ◌*◌, ◌%◌, ◌^◌, ◌≤◌, ◌<◌}
use native.Mathlib.Nat.{mod-eq_of_lt, mod-lt, zero-mul, suc-mul, not-suc-le-zero}
use native.Mathlib.Numerals.{add-one}
use native.Mathlib.Omega.{arith}
use lib.Dec.{eqb, ltb}
use lib.ListN.{length}
use borrow.Author.Tests.{lt-ltb}
use Rattle.laws.specs.Steps.{steps}
use Rattle.laws.proofs.Members.{has_none}
use Rattle.laws.proofs.Steps.{kept}
use Rattle.laws.proofs.Tests.{every, both}
use Rattle.frames.specs.Part.{most_ports}
use Rattle.ports.specs.declared.state.State.{State}
use Rattle.lcf.specs.Advance.{advance}
use Rattle.trace_parts.specs.Layout.{block_len, most_slots, most_bodies}
use Rattle.trace_parts.specs.Body.{formed}
use Rattle.import_steps.specs.declared.taking.Import.{Import}
use Rattle.captures.specs.declared.number.ByteOrder.{ByteOrder}
use Rattle.captures.specs.Capture.{low_first, records_of, record_len, packet_in, record_at}
use Rattle.captures.specs.declared.packet.Packet.{Packet}
use Rattle.import_steps.specs.Taking.{Known, known, start_number, started, begun, same_slot, next_slot, heard, slot_begun, step_number, numbered}
use Rattle.import_steps.specs.Laying.{fields_now}
use Rattle.import_steps.proofs.Fitting.{Startable, startable, Taken, fitting, next-room, is_new, begun-some}
use Rattle.imports.specs.Cut.{Record, Body, joined, blocks_of, joined_bytes, Cut, open_body, all_bodies, uncut, cut_more, cut}
use Rattle.imports.specs.Passes.{Fresh, cut_of}
use Rattle.imports.proofs.Lists.{length_snoc}
use Rattle.imports.proofs.Blocks.{heard_in, framed_none}
use Rattle.imports.proofs.Bodies.{SoundBodies, long_more, open_length, open_sound, sound_more}
use Rattle.imports.proofs.Hosts.{Held, held_first, held_more}
use Rattle.imports.proofs.Cases.{cases, declined_cut, same_cut, next_cut, new_cut}

pub record Good (n : ℕ) (g : Cut) : Type 0 where
  pub ports : g.known.state.ports ≡ n
  pub start : Startable most_ports n g.known.mode g.known.state.initiator.0 g.known.state.target.0
  pub form : formed n g.fields ≡ true
  pub few : g.known.bodies ≤ most_bodies
  pub most : g.known.slots ≤ most_slots n
  pub slots : begun g.known ≡ true → g.known.slots ≡ suc (length g.slots)
  pub bodies : g.known.bodies ≡ length (all_bodies g)
  pub long : length (blocks_of n g.slots) ≡ length g.slots * block_len n
  pub held : Held n g.known.hosts g.records
  pub each : SoundBodies n g.bodies
  pub total : length (joined_bytes n (all_bodies g)) ≡ g.known.bodies * 5 + g.known.state.due * block_len n
  pub due : g.known.state.due ≤ g.known.bodies * 360
  pub full : begun g.known ≡ true → g.known.state.due + 360 ≤ g.known.bodies * 360 + g.known.slots
  pub none : begun g.known ≡ false → g.known.bodies ≡ 0

pub all_open : (g : Cut) → begun g.known ≡ true → all_bodies g ≡ g.bodies ++ (open_body g ∷ [])
unfolding all_bodies
all_open g e = rw e

pub all_shut : (g : Cut) → begun g.known ≡ false → all_bodies g ≡ g.bodies
unfolding all_bodies
all_shut g e = rw e

-- the open body is sound, and so are all
pub sound_open : (n : ℕ) (g : Cut) → Good n g → begun g.known ≡ true → SoundBodies n (g.bodies ++ (open_body g ∷ []))
sound_open n g h e =
    let count : length (open_body g).slots ≡ suc (length g.slots) = length_snoc g.slots g.records in
    let is = h.slots e in
    let most = h.most in
    let blocks = long_more n g.slots g.records h.long h.held.framed ∙ ap (λ (z : ℕ). z * block_len n) (sym count) in
    sound_more n g.bodies (open_body g) h.each (open_sound n (open_body g) h.start.some h.start.ports (omega arith) (omega arith) h.form blocks)

pub sound_all : (n : ℕ) (g : Cut) → Good n g → SoundBodies n (all_bodies g)
sound_all n g h = go (begun g.known) refl
  where
    go : (b : Bool) → begun g.known ≡ b → SoundBodies n (all_bodies g)
    go true e = rw (all_open g e) (sound_open n g h e)
    go false e = rw (all_shut g e) h.each

-- ---- rule 7

record Moved (n : ℕ) (st : State) : Type 0 where
  ports : (advance st).ports ≡ n
  initiator : (advance st).initiator.0 < n
  target : (advance st).target.0 < n
  due : (advance st).due ≡ (st.due + 1) % 2 ^ 32

moved : (n : ℕ) (st : State) → st.ports ≡ n → 1 ≤ n → st.target.0 < n → Moved n st
unfolding advance
moved n st e some l = record { ports = e; initiator = rw e (mod-lt (st.initiator.0 + 1) some); target = rw e (go (eqb ((st.initiator.0 + 1) % n) 0)); due = refl }
  where
    go : (b : Bool) → cond b ((st.target.0 + 1) % n) st.target.0 < n
    go true = mod-lt (st.target.0 + 1) some
    go false = l

form_now : (n : ℕ) (p : Known) → Startable most_ports n p.mode p.state.initiator.0 p.state.target.0 → formed n (fields_now p) ≡ true
unfolding formed
form_now n p s = every s.known (every (lt-ltb _ _ s.initiator) (lt-ltb _ _ s.target))

few_slots : (n : ℕ) → most_slots n ≡ 360
unfolding most_slots
few_slots n = refl

no_blocks : (n : ℕ) → length (blocks_of n []) ≡ 0 * block_len n
unfolding joined steps
no_blocks n = sym (zero-mul (block_len n))

pub next-begun : (p : Known) (k : Packet) → next_slot p k ≡ true → begun p ≡ true
unfolding next_slot
next-begun p k e = (both (begun p) _ e).0

-- ---- record after record

module _ (n : ℕ) (low : Bool) (r : Record) (g : Cut) (h : Good n g) where
  abbrev p : Known
  p = g.known

  abbrev k : Packet
  k = packet_in low r

  whole : Taken most_ports p (length r) k → length r ≡ record_len n
  whole ok = ok.long ∙ ap record_len h.ports

  pub declined : Good n (declined_cut g (step_number most_ports p (length r) k))
  unfolding numbered all_bodies
  declined = record { ports = h.ports; start = h.start; form = h.form; few = h.few; most = h.most; slots = h.slots; bodies = h.bodies; long = h.long; held = h.held; each = h.each; total = h.total; due = h.due; full = h.full; none = h.none }

  -- the numbers of the open body
  sized : begun p ≡ true → length (joined_bytes n g.bodies) + (5 + suc (length g.slots) * block_len n) ≡ p.bodies * 5 + p.state.due * block_len n
  sized e = sym (open_length n g.bodies p.first g.fields g.slots g.records h.long h.held.framed) ∙ ap (λ (bs : List Body). length (joined_bytes n bs)) (sym (all_open g e)) ∙ h.total

  counted : begun p ≡ true → p.bodies ≡ suc (length g.bodies)
  counted e = h.bodies ∙ ap length (all_open g e) ∙ length_snoc g.bodies (open_body g)

  pub same_good : Taken most_ports p (length r) k → same_slot p k ≡ true → Good n (same_cut g r k)
  unfolding heard
  same_good ok s =
      let open-now : begun p ≡ true = lt-ltb 0 p.slots (begun-some p k s) in
      let q = same_cut g r k in
      let held = held_more n p.hosts low g.records r (whole ok) h.held in
      let bytes = open_length n g.bodies p.first g.fields g.slots (g.records ++ (r ∷ [])) h.long held.framed in
      record {
        ports = h.ports;
        start = h.start;
        form = h.form;
        few = h.few;
        most = h.most;
        slots = h.slots;
        bodies = counted open-now ∙ sym (length_snoc g.bodies (open_body q)) ∙ ap length (sym (all_open q open-now));
        long = h.long;
        held = held;
        each = h.each;
        total = ap (λ (bs : List Body). length (joined_bytes n bs)) (all_open q open-now) ∙ bytes ∙ sized open-now;
        due = h.due;
        full = h.full;
        none = h.none;
      }

  pub due-next : p.bodies ≤ most_bodies → (p.state.due + 1) % 2 ^ 32 ≡ p.state.due + 1
  due-next few = let most = h.due in mod-eq_of_lt (omega arith)

  pub next_good : Taken most_ports p (length r) k → next_slot p k ≡ true → Good n (next_cut g r k)
  unfolding slot_begun
  next_good ok s =
      let open-now : begun p ≡ true = next-begun p k s in
      let room : p.slots < most_slots n = rw h.ports at (next-room p k s) in
      let q = next_cut g r k in
      let open-then : begun q.known ≡ true = lt-ltb 0 (p.slots + 1) (omega arith) in
      let m = moved n p.state h.ports h.start.some h.start.target in
      let held = held_first n low r (whole ok) in
      let is = h.slots open-now in
      let more = length_snoc g.slots g.records in
      let long : length (blocks_of n (g.slots ++ (g.records ∷ []))) ≡ length (g.slots ++ (g.records ∷ [])) * block_len n = long_more n g.slots g.records h.long h.held.framed ∙ ap (λ (z : ℕ). z * block_len n) (sym more) in
      let bytes = open_length n g.bodies p.first g.fields (g.slots ++ (g.records ∷ [])) (r ∷ []) long held.framed in
      let due = m.due ∙ due-next h.few in
      let before = sized open-now in
      let step = suc-mul (suc (length g.slots)) (block_len n) in
      let one = suc-mul p.state.due (block_len n) in
      let full : 360 ≡ most_slots n = sym (few_slots n) in
      let total : length (joined_bytes n g.bodies) + (5 + suc (length (g.slots ++ (g.records ∷ []))) * block_len n) ≡ p.bodies * 5 + (advance p.state).due * block_len n =
      rw (due, more, add-one p.state.due) (omega arith) in
      record {
        ports = m.ports;
        start = record { some = h.start.some; ports = h.start.ports; initiator = m.initiator; target = m.target; known = h.start.known };
        form = h.form;
        few = h.few;
        most = omega arith;
        slots = λ _. rw (add-one, is, more);
        bodies = counted open-now ∙ sym (length_snoc g.bodies (open_body q)) ∙ ap length (sym (all_open q open-then));
        long = long;
        held = held;
        each = h.each;
        total = ap (λ (bs : List Body). length (joined_bytes n bs)) (all_open q open-then) ∙ bytes ∙ total;
        due = rw due (omega (arith, h.full open-now));
        full = λ _. rw due (omega (arith, h.full open-now));
        none = λ e. absurd (true≢false (sym open-then ∙ e));
      }

  pub new_good : Taken most_ports p (length r) k → same_slot p k ≡ false → next_slot p k ≡ false → Good n (new_cut g r k)
  unfolding slot_begun
  new_good ok a b =
      let room = (fitting p k ok.fits).room (is_new p k a b) in
      let q = new_cut g r k in
      let m = moved n p.state h.ports h.start.some h.start.target in
      let held = held_first n low r (whole ok) in
      let none = no_blocks n in
      let bytes = open_length n (all_bodies g) k.slot (fields_now p) [] (r ∷ []) none held.framed in
      let due = m.due ∙ due-next h.few in
      let one = suc-mul p.state.due (block_len n) in
      let block = suc-mul 0 (block_len n) in
      let nothing = zero-mul (block_len n) in
      let before = h.total in
      let total : length (joined_bytes n (all_bodies g)) + (5 + 1 * block_len n) ≡ (p.bodies + 1) * 5 + (advance p.state).due * block_len n = rw (due, add-one p.state.due) (omega arith) in
      record {
        ports = m.ports;
        start = record { some = h.start.some; ports = h.start.ports; initiator = m.initiator; target = m.target; known = h.start.known };
        form = form_now n p h.start;
        few = omega arith;
        most = rw (few_slots n) (omega arith);
        slots = λ _. refl;
        bodies = ap (λ (z : ℕ). z + 1) h.bodies ∙ add-one (length (all_bodies g)) ∙ sym (length_snoc (all_bodies g) (open_body q)) ∙ ap length (sym (all_open q refl));
        long = none;
        held = held;
        each = sound_all n g h;
        total = ap (λ (bs : List Body). length (joined_bytes n bs)) (all_open q refl) ∙ bytes ∙ total;
        due = rw due (omega (arith, h.due));
        full = λ _. rw due (omega (arith, h.due));
        none = λ e. absurd (true≢false e);
      }

  pub good_more : Good n (cut_more most_ports low r g)
  good_more = cases low r g (Good n) (λ _. declined) same_good (λ ok _ b. next_good ok b) new_good

-- before the first
pub good_none : (p : Known) → Fresh most_ports p → Good p.state.ports (uncut p)
unfolding started all_bodies joined steps heard_in
good_none p f =
    let n = p.state.ports in
    let slots : p.slots ≡ 0 = ap (λ (x : Known). x.slots) f.is in
    let bodies : p.bodies ≡ 0 = ap (λ (x : Known). x.bodies) f.is in
    let due : p.state.due ≡ 0 = ap (λ (x : Known). x.state.due) f.is in
    let hosts : p.hosts ≡ 0 = ap (λ (x : Known). x.hosts) f.is in
    let number : start_number most_ports n p.mode p.state.initiator.0 p.state.target.0 ≡ 0 = sym (ap (λ (x : Known). x.number) f.is) ∙ f.number in
    let start = startable most_ports n p.mode p.state.initiator.0 p.state.target.0 number in
    let shut : begun p ≡ false = ap (λ (z : ℕ). ltb 0 z) slots in
    let all = all_shut (uncut p) shut in
    record {
      ports = refl;
      start = start;
      form = form_now n p start;
      few = omega arith;
      most = omega arith;
      slots = λ e. absurd (true≢false (sym e ∙ shut));
      bodies = bodies ∙ ap length (sym all);
      long = no_blocks n;
      held = record { framed = framed_none n; heard = λ h. rw hosts (has_none h) };
      each = λ k l. absurd (not-suc-le-zero l);
      total = ap (λ (bs : List Body). length (joined_bytes n bs)) all ∙ rw (bodies, due) (omega (arith, zero-mul (block_len n)));
      due = omega arith;
      full = λ e. absurd (true≢false (sym e ∙ shut));
      none = λ _. bodies;
    }

pub good : (low : Bool) (s : List ℕ) (p : Known) → Fresh most_ports p → (i : ℕ) → Good p.state.ports (cut most_ports low p.state.ports s p i)
unfolding cut
good low s p f i = kept _ _ (λ _ g. Good p.state.ports g) i (λ k g l h. good_more p.state.ports low (record_at p.state.ports s k) g h) (good_none p f)

pub good_of : (order : ByteOrder) (start : Import) (s : List ℕ) → Fresh most_ports (known start) → Good start.state.ports (cut_of order start s)
good_of order start s f = good (low_first order) s (known start) f (records_of start.state.ports s)
