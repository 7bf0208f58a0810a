-- Record after record: the bodies so far, and the open one.
use mathlib.Core.Path.{◌≡◌, refl, sym, ap, ◌∙◌}
use mathlib.Core.Logic.{◌⊎◌, inl, inr, ◌≢◌, ⊎_elim}
use mathlib.Core.Bool.{Bool, true, false, true≢false}
use mathlib.Core.List.{[], ◌∷◌}
use Prim.Native.Nat.{ℕ, suc, ◌+◌, ◌%◌, ◌^◌, ◌≤◌, ◌<◌}
use native.Mathlib.Nat.{add-zero, mod-eq_of_lt}
use native.Mathlib.Omega.{arith}
use lib.Dec.{eqb, ltb}
use lib.ListN.{length, get_or}
use lib.Seq.{get_or_at}
use borrow.Author.Tests.{eqb-true, eqb-false, ltb-false, lt-ltb}
use Rattle.laws.specs.Steps.{steps}
use Rattle.laws.proofs.Tests.{both}
use Rattle.frames.specs.Part.{most_ports}
use Rattle.lcf.specs.Advance.{advance}
use Rattle.ports.specs.declared.state.State.{State}
use Rattle.trace_parts.specs.Layout.{most_slots}
use Rattle.captures.specs.Capture.{packet_in}
use Rattle.captures.specs.declared.packet.Packet.{Packet}
use Rattle.import_steps.specs.Taking.{Known, begun, same_slot, next_slot, heard, slot_begun, numbered}
use Rattle.import_steps.proofs.Fitting.{begun-some}
use Rattle.imports.specs.Cut.{Record, Cut, open_body, all_bodies, cut_more}
use Rattle.imports.proofs.Lists.{length_snoc}
use Rattle.imports.proofs.Cases.{cases, declined_cut, same_cut, next_cut, new_cut}
use Rattle.imports.proofs.Good.{Good, all_open, all_shut, next-begun}
use Rattle.imported.specs.Records.{slot_of}
use Rattle.imported.specs.Trace.{after, fields_after}
use Rattle.imported.proofs.Runs.{AllOf, all_more, Numbered, numbered_more, slot_known, nobody, total, total_more, Told, Apart, Run, run_more}

-- what is known of the open body
pub record Open (n mode : ℕ) (st : State) (g : Cut) : Type 0 where
  pub small : g.known.first < 2 ^ 32
  pub fields : g.fields ≡ fields_after (total g.bodies) mode st
  pub numbers : Numbered g.known.first g.slots
  pub turn_of_slot : AllOf g.known.last g.records
  pub last : g.known.last ≡ (g.known.first + length g.slots) % 2 ^ 32
  pub apart : (c : ℕ) → suc c ≡ length g.bodies → Apart n (get_or g.bodies c nobody) g.known.first

pub record Cutting (n mode : ℕ) (st : State) (g : Cut) : Type 0 where
  pub in_mode : g.known.mode ≡ mode
  pub state : g.known.state ≡ after (total (all_bodies g)) st
  pub run : Run n mode st g.bodies
  pub now : begun g.known ≡ true → Open n mode st g

module _ (n mode : ℕ) (st : State) where
  open_told : (g : Cut) → Good n g → Open n mode st g → Told n mode st (total g.bodies) (open_body g)
  open_told g h o = record { small = o.small; fields = o.fields; form = h.form; numbers = numbered_more g.known.first g.slots g.records o.numbers (rw (← o.last) o.turn_of_slot) }

  -- all bodies, if the capture ended here
  pub run_all : (g : Cut) → Good n g → Cutting n mode st g → Run n mode st (all_bodies g)
  run_all g h c = go (begun g.known) refl
    where
      go : (b : Bool) → begun g.known ≡ b → Run n mode st (all_bodies g)
      go true e = rw (all_open g e) (run_more n mode st g.bodies (open_body g) c.run (open_told g h (c.now e)) (c.now e).apart)
      go false e = rw (all_shut g e) c.run

  total_open : (g : Cut) → begun g.known ≡ true → total (all_bodies g) ≡ total g.bodies + suc (length g.slots)
  total_open g e = ap total (all_open g e) ∙ total_more g.bodies (open_body g) ∙ ap (λ (k : ℕ). total g.bodies + k) (length_snoc g.slots g.records)

  after_more : (q : ℕ) → after (suc q) st ≡ advance (after q st)
  unfolding after steps
  after_more q = refl

  -- no new body: there was no room, or there is a gap
  no_next : (p : Known) (k : Packet) → begun p ≡ true → next_slot p k ≡ false → p.slots ≤ most_slots p.state.ports → (p.slots ≡ most_slots p.state.ports) ⊎ (k.slot ≢ (p.last + 1) % 2 ^ 32)
  unfolding next_slot
  no_next p k e f most = go (ltb p.slots (most_slots p.state.ports)) refl
    where
      gap : ltb p.slots (most_slots p.state.ports) ≡ true → (b : Bool) → eqb k.slot ((p.last + 1) % 2 ^ 32) ≡ b → k.slot ≢ (p.last + 1) % 2 ^ 32
      gap l true q = absurd (true≢false (sym q ∙ (rw (e, l) at f)))
      gap l false q = eqb-false _ _ q

      go : (b : Bool) → ltb p.slots (most_slots p.state.ports) ≡ b → (p.slots ≡ most_slots p.state.ports) ⊎ (k.slot ≢ (p.last + 1) % 2 ^ 32)
      go true l = inr (gap l (eqb k.slot ((p.last + 1) % 2 ^ 32)) refl)
      go false l = inl (omega (arith, ltb-false p.slots (most_slots p.state.ports) l))

  module _ (low : Bool) (r : Record) (g : Cut) (h : Good n g) (c : Cutting n mode st g) (small : slot_of r < 2 ^ 32) where
    abbrev p : Known
    p = g.known

    abbrev k : Packet
    k = packet_in low r

    slot_is : k.slot ≡ slot_of r
    slot_is = slot_known low r

    declined : (v : ℕ) → Cutting n mode st (declined_cut g v)
    unfolding numbered all_bodies
    declined v = record { in_mode = c.in_mode; state = c.state; run = c.run; now = λ e. let o = c.now e in record { small = o.small; fields = o.fields; numbers = o.numbers; turn_of_slot = o.turn_of_slot; last = o.last; apart = o.apart } }

    same_last : same_slot p k ≡ true → slot_of r ≡ p.last
    unfolding same_slot
    same_last e = sym slot_is ∙ eqb-true k.slot p.last (both (begun p) _ e).1

    next_last : next_slot p k ≡ true → slot_of r ≡ (p.last + 1) % 2 ^ 32
    unfolding next_slot
    next_last e = sym slot_is ∙ eqb-true k.slot ((p.last + 1) % 2 ^ 32) (both (ltb p.slots (most_slots p.state.ports)) _ (both (begun p) _ e).1).1

    one_record : (x : ℕ) → slot_of r ≡ x → AllOf x (r ∷ [])
    unfolding AllOf
    one_record x e = (e, tt)

    same : same_slot p k ≡ true → Cutting n mode st (same_cut g r k)
    unfolding heard
    same e =
        let open-now : begun p ≡ true = lt-ltb 0 p.slots (begun-some p k e) in
        let o = c.now open-now in
        record {
          in_mode = c.in_mode;
          state = c.state ∙ ap (λ (q : ℕ). after q st) (total_open g open-now ∙ sym (total_open (same_cut g r k) open-now));
          run = c.run;
          now = λ _. record { small = o.small; fields = o.fields; numbers = o.numbers; turn_of_slot = all_more p.last g.records r o.turn_of_slot (same_last e); last = o.last; apart = o.apart };
        }

    next : next_slot p k ≡ true → Cutting n mode st (next_cut g r k)
    unfolding slot_begun
    next e =
        let open-now : begun p ≡ true = next-begun p k e in
        let o = c.now open-now in
        let q = next_cut g r k in
        let open-then : begun q.known ≡ true = lt-ltb 0 (p.slots + 1) (omega arith) in
        let more : length q.slots ≡ suc (length g.slots) = length_snoc g.slots g.records in
        let count : total (all_bodies q) ≡ suc (total (all_bodies g)) = total_open q open-then ∙ rw more (omega (arith, total_open g open-now)) in
        let last : k.slot ≡ (p.first + length q.slots) % 2 ^ 32 = slot_is ∙ next_last e ∙ rw (o.last, more) (omega arith) in
        record {
          in_mode = c.in_mode;
          state = ap advance c.state ∙ sym (after_more (total (all_bodies g))) ∙ ap (λ (x : ℕ). after x st) (sym count);
          run = c.run;
          now = λ _. record { small = o.small; fields = o.fields; numbers = numbered_more p.first g.slots g.records o.numbers (rw (← o.last) o.turn_of_slot); turn_of_slot = one_record k.slot (sym slot_is); last = last; apart = o.apart };
        }

    -- the slot after the open body's last
    beyond : (o : Open n mode st g) → begun p ≡ true → (p.last + 1) % 2 ^ 32 ≡ ((open_body g).first + length (open_body g).slots) % 2 ^ 32
    beyond o e = rw (o.last, length_snoc g.slots g.records) (omega arith)

    apart_open : begun p ≡ true → next_slot p k ≡ false → Apart n (open_body g) k.slot
    apart_open e b =
        let full : p.slots ≡ length (open_body g).slots = h.slots e ∙ sym (length_snoc g.slots g.records) in
        ⊎_elim (λ l. inl (sym full ∙ l ∙ ap most_slots h.ports)) (λ d. inr (λ x. d (x ∙ sym (beyond (c.now e) e)))) (no_next p k e b (rw h.ports h.most))

    apart_now : next_slot p k ≡ false → (d : ℕ) → suc d ≡ length (all_bodies g) → Apart n (get_or (all_bodies g) d nobody) k.slot
    apart_now b d e = go (begun p) refl
      where
        go : (x : Bool) → begun p ≡ x → Apart n (get_or (all_bodies g) d nobody) k.slot
        go true q =
            let at : length g.bodies ≡ d = omega (arith, e, ap length (all_open g q), length_snoc g.bodies (open_body g)) in
            rw (all_open g q, get_or_at g.bodies (open_body g) [] nobody d at) (apart_open q b)
        go false q = absurd (omega (arith, h.none q, h.bodies))

    new : same_slot p k ≡ false → next_slot p k ≡ false → Cutting n mode st (new_cut g r k)
    unfolding slot_begun
    new a b =
        let q = new_cut g r k in
        let count : total (all_bodies q) ≡ suc (total (all_bodies g)) = total_open q refl ∙ omega arith in
        record {
          in_mode = c.in_mode;
          state = ap advance c.state ∙ sym (after_more (total (all_bodies g))) ∙ ap (λ (x : ℕ). after x st) (sym count);
          run = run_all g h c;
          now = λ _. record {
            small = rw slot_is small;
            fields = λ i. record { mode = c.in_mode i; initiator = (c.state i).initiator.0; target = (c.state i).target.0 };
            numbers = λ d l. absurd (omega arith);
            turn_of_slot = one_record k.slot (sym slot_is);
            last = sym (ap (λ (x : ℕ). x % 2 ^ 32) (add-zero k.slot) ∙ mod-eq_of_lt (rw slot_is small));
            apart = apart_now b;
          };
        }

    pub cutting_more : Cutting n mode st (cut_more most_ports low r g)
    cutting_more = cases low r g (Cutting n mode st) (λ _. declined _) (λ _ e. same e) (λ _ _ e. next e) (λ _ a b. new a b)
