-- Record after record: the slots of all bodies, one after the other, are the captured slots.
use mathlib.Core.Path.{◌≡◌, refl, sym, ap, ◌∙◌}
use mathlib.Core.Logic.{◌≢◌}
use mathlib.Core.Bool.{Bool, true, false, cond, true≢false}
use mathlib.Core.List.{List, [], ◌∷◌, ◌++◌, append_assoc, append-nil}
use Prim.Native.Nat.{ℕ, zero, suc, ◌+◌, ◌<◌}
use native.Mathlib.Decide.{dec_lt, ℕ_discrete}
use native.Mathlib.Omega.{arith}
use lib.Dec.{eqb}
use lib.ListN.{length, get_or, get_or-append, get_or-eq_default}
use lib.Seq.{get_or_at}
use borrow.Author.Tests.{eqb-true, eq-eqb, ne_eqb, lt-ltb}
use Rattle.laws.specs.Steps.{steps}
use Rattle.laws.proofs.Steps.{kept}
use Rattle.laws.proofs.Tests.{both}
use Rattle.frames.specs.Part.{most_ports}
use Rattle.captures.specs.Capture.{packet_in, record_at}
use Rattle.captures.specs.declared.packet.Packet.{Packet}
use Rattle.import_steps.specs.Taking.{Known, begun, same_slot, next_slot, heard, slot_begun, numbered}
use Rattle.import_steps.proofs.Fitting.{begun-some}
use Rattle.imports.specs.Cut.{Record, Body, Cut, open_body, all_bodies, uncut, cut_more, cut}
use Rattle.imports.proofs.Lists.{length_snoc}
use Rattle.imports.proofs.Cases.{cases, same_cut, next_cut, new_cut}
use Rattle.imports.proofs.Good.{all_open, all_shut, next-begun}
use Rattle.imported.specs.Records.{slot_at, turn, slots_of, of_slot}
use Rattle.imported.proofs.Runs.{slot_known}

-- the slots of bodies, one after the other
unfoldable pub slots_in : List Body → List (List Record)
slots_in [] = []
slots_in (b ∷ bs) = b.slots ++ slots_in bs

pub slots_join : (xs bs : List Body) → slots_in (xs ++ bs) ≡ slots_in xs ++ slots_in bs
unfolding slots_in
slots_join [] bs = refl
slots_join (a ∷ xs) bs = ap (λ (x : List (List Record)). a.slots ++ x) (slots_join xs bs) ∙ sym (append_assoc a.slots (slots_in xs) (slots_in bs))

pub slots_more : (bs : List Body) (b : Body) → slots_in (bs ++ (b ∷ [])) ≡ slots_in bs ++ b.slots
unfolding slots_in
slots_more bs b = slots_join bs (b ∷ []) ∙ ap (λ (x : List (List Record)). slots_in bs ++ x) (append-nil b.slots)

-- a slot more, of one record; and a record more in the last slot
module _ (xs : List (List Record)) (r : Record) (q : ℕ) where
  beyond : (x : List Record) → (length xs ≡ q → ⊥) → (q < length xs → ⊥) → get_or (xs ++ (x ∷ [])) q [] ≡ []
  beyond x d f = get_or-eq_default (xs ++ (x ∷ [])) [] {n = q} (rw (length_snoc xs x) (omega arith))

  appended : get_or (xs ++ ((r ∷ []) ∷ [])) q [] ≡ cond (eqb (length xs) q) (get_or xs q [] ++ (r ∷ [])) (get_or xs q [])
  appended = go (ℕ_discrete (length xs) q)
    where
      other : (length xs ≡ q → ⊥) → Dec (q < length xs) → get_or (xs ++ ((r ∷ []) ∷ [])) q [] ≡ get_or xs q []
      other d (yes l) = get_or-append xs ((r ∷ []) ∷ []) [] q l
      other d (no f) = beyond _ d f ∙ sym (get_or-eq_default xs [] {n = q} (omega arith))

      go : Dec (length xs ≡ q) → get_or (xs ++ ((r ∷ []) ∷ [])) q [] ≡ cond (eqb (length xs) q) (get_or xs q [] ++ (r ∷ [])) (get_or xs q [])
      go (yes e) = rw (eq-eqb (length xs) q e, get_or_at xs (r ∷ []) [] [] q e, get_or-eq_default xs [] {n = q} (omega arith))
      go (no d) = rw (ne_eqb (length xs) q d) (other d (dec_lt q (length xs)))

  extended : (rs : List Record) → get_or (xs ++ ((rs ++ (r ∷ [])) ∷ [])) q [] ≡ cond (eqb (length xs) q) (get_or (xs ++ (rs ∷ [])) q [] ++ (r ∷ [])) (get_or (xs ++ (rs ∷ [])) q [])
  extended rs = go (ℕ_discrete (length xs) q)
    where
      other : (length xs ≡ q → ⊥) → Dec (q < length xs) → get_or (xs ++ ((rs ++ (r ∷ [])) ∷ [])) q [] ≡ get_or (xs ++ (rs ∷ [])) q []
      other d (yes l) = get_or-append xs ((rs ++ (r ∷ [])) ∷ []) [] q l ∙ sym (get_or-append xs (rs ∷ []) [] q l)
      other d (no f) = beyond _ d f ∙ sym (beyond _ d f)

      go : Dec (length xs ≡ q) → get_or (xs ++ ((rs ++ (r ∷ [])) ∷ [])) q [] ≡ cond (eqb (length xs) q) (get_or (xs ++ (rs ∷ [])) q [] ++ (r ∷ [])) (get_or (xs ++ (rs ∷ [])) q [])
      go (yes e) = rw (eq-eqb (length xs) q e, get_or_at xs (rs ++ (r ∷ [])) [] [] q e, get_or_at xs rs [] [] q e)
      go (no d) = rw (ne_eqb (length xs) q d) (other d (dec_lt q (length xs)))

slots_open : (g : Cut) → begun g.known ≡ true → slots_in (all_bodies g) ≡ (slots_in g.bodies ++ g.slots) ++ (g.records ∷ [])
slots_open g e = ap slots_in (all_open g e) ∙ slots_more g.bodies (open_body g) ∙ sym (append_assoc (slots_in g.bodies) g.slots (g.records ∷ []))

-- the first i records, none declined, are sorted into their slots
pub record Sorted (n : ℕ) (s : List ℕ) (i : ℕ) (g : Cut) : Type 0 where
  pub none : i ≡ 0 → begun g.known ≡ false
  pub last : (j : ℕ) → suc j ≡ i → (begun g.known ≡ true) × (g.known.last ≡ slot_at n s j)
  pub many : length (slots_in (all_bodies g)) ≡ slots_of n s i
  pub each : (q : ℕ) → get_or (slots_in (all_bodies g)) q [] ≡ of_slot n s q i

module _ (n : ℕ) (s : List ℕ) where
  pub slot_more : (i q : ℕ) → of_slot n s q (suc i) ≡ cond (eqb (turn n s i) q) (of_slot n s q i ++ (record_at n s i ∷ [])) (of_slot n s q i)
  unfolding of_slot steps
  slot_more i q = refl

  -- a record of another slot than the one before; and of the same
  turn_new : (i : ℕ) → ((j : ℕ) → suc j ≡ i → slot_at n s i ≢ slot_at n s j) → turn n s i ≡ slots_of n s i
  unfolding turn slots_of
  turn_new zero d = refl
  turn_new (suc j) d = rw (ne_eqb _ _ (d j refl))

  turn_same : (j : ℕ) → slot_at n s (suc j) ≡ slot_at n s j → suc (turn n s (suc j)) ≡ slots_of n s (suc j)
  unfolding turn slots_of
  turn_same j e = rw (eq-eqb _ _ e)

  many_now : (i : ℕ) → slots_of n s (suc i) ≡ suc (turn n s i)
  unfolding slots_of
  many_now i = refl

  module _ (low : Bool) (i : ℕ) (g : Cut) (h : Sorted n s i g) where
    abbrev r : Record
    r = record_at n s i

    abbrev p : Known
    p = g.known

    abbrev k : Packet
    k = packet_in low r

    -- another slot, in the open body or in a new one
    new_slot : (q : Cut) → begun q.known ≡ true → q.known.last ≡ slot_at n s i → slots_in (all_bodies q) ≡ slots_in (all_bodies g) ++ ((r ∷ []) ∷ []) → turn n s i ≡ slots_of n s i
        → Sorted n s (suc i) q
    new_slot q open-then last is now =
        let here : length (slots_in (all_bodies g)) ≡ turn n s i = h.many ∙ sym now in
        record {
          none = λ e. absurd (omega (arith, e));
          last = λ j e. (open-then, last ∙ ap (slot_at n s) (omega (arith, e)));
          many = ap length is ∙ length_snoc (slots_in (all_bodies g)) (r ∷ []) ∙ ap suc here ∙ sym (many_now i);
          each = λ x. ap (λ (l : List (List Record)). get_or l x []) is ∙ appended (slots_in (all_bodies g)) r x ∙ rw (here, h.each x) (sym (slot_more i x));
        }

    other_slot : same_slot p k ≡ false → turn n s i ≡ slots_of n s i
    unfolding same_slot
    other_slot a = turn_new i (λ j e x.
        let (open-now, last) = h.last j e in
        true≢false (sym (eq-eqb k.slot p.last (slot_known low r ∙ x ∙ sym last)) ∙ (rw open-now at a)))

    next : same_slot p k ≡ false → next_slot p k ≡ true → Sorted n s (suc i) (next_cut g r k)
    unfolding slot_begun
    next a e =
        let q = next_cut g r k in
        let open-then : begun q.known ≡ true = lt-ltb 0 (p.slots + 1) (omega arith) in
        new_slot q open-then (slot_known low r)
        (slots_open q open-then ∙ ap (λ (l : List (List Record)). l ++ ((r ∷ []) ∷ [])) (sym (append_assoc (slots_in g.bodies) g.slots (g.records ∷ [])) ∙ sym (slots_open g (next-begun p k e))))
        (other_slot a)

    new : same_slot p k ≡ false → Sorted n s (suc i) (new_cut g r k)
    unfolding slot_begun
    new a = new_slot (new_cut g r k) refl (slot_known low r) (ap slots_in (all_open (new_cut g r k) refl) ∙ slots_more (all_bodies g) (open_body (new_cut g r k))) (other_slot a)

    -- the same
    same_last : same_slot p k ≡ true → slot_at n s i ≡ p.last
    unfolding same_slot
    same_last e = sym (slot_known low r) ∙ eqb-true k.slot p.last (both (begun p) _ e).1

    place_same : (j : ℕ) → suc j ≡ i → same_slot p k ≡ true → length (slots_in g.bodies ++ g.slots) ≡ turn n s i
    place_same j before e =
        let open-now : begun p ≡ true = lt-ltb 0 p.slots (begun-some p k e) in
        let front = slots_in g.bodies ++ g.slots in
        let now : suc (turn n s i) ≡ slots_of n s i = rw (← before) (turn_same j (rw before (same_last e) ∙ (h.last j before).1)) in
        let all : length (slots_in (all_bodies g)) ≡ suc (length front) = ap length (slots_open g open-now) ∙ length_snoc front g.records in
        omega (arith, all, h.many, now)

    same : (j : ℕ) → suc j ≡ i → same_slot p k ≡ true → Sorted n s (suc i) (same_cut g r k)
    unfolding heard
    same j before e =
        let open-now : begun p ≡ true = lt-ltb 0 p.slots (begun-some p k e) in
        let q = same_cut g r k in
        let front = slots_in g.bodies ++ g.slots in
        let here : length front ≡ turn n s i = place_same j before e in
        record {
          none = λ x. absurd (omega (arith, x));
          last = λ d x. (open-now, sym (same_last e) ∙ ap (slot_at n s) (omega (arith, x)));
          many = ap length (slots_open q open-now) ∙ length_snoc front (g.records ++ (r ∷ [])) ∙ ap suc here ∙ sym (many_now i);
          each = λ x.
              ap (λ (l : List (List Record)). get_or l x []) (slots_open q open-now) ∙ extended front r x g.records
              ∙ rw (here, ← slots_open g open-now, h.each x) (sym (slot_more i x));
        }

    -- the records before it of its slot: none, or those of the open slot
    pub none_of_new : same_slot p k ≡ false → of_slot n s (turn n s i) i ≡ []
    none_of_new a = sym (h.each (turn n s i)) ∙ get_or-eq_default (slots_in (all_bodies g)) [] {n = turn n s i} (omega (arith, h.many, other_slot a))

    pub open_of_same : same_slot p k ≡ true → of_slot n s (turn n s i) i ≡ g.records
    open_of_same e = go i refl
      where
        front : List (List Record)
        front = slots_in g.bodies ++ g.slots

        go : (x : ℕ) → i ≡ x → of_slot n s (turn n s i) i ≡ g.records
        go zero is = absurd (true≢false (sym (lt-ltb 0 p.slots (begun-some p k e)) ∙ h.none is))
        go (suc j) is =
            let open-now : begun p ≡ true = lt-ltb 0 p.slots (begun-some p k e) in
            sym (h.each (turn n s i)) ∙ ap (λ (l : List (List Record)). get_or l (turn n s i) []) (slots_open g open-now)
            ∙ get_or_at front g.records [] [] (turn n s i) (place_same j (sym is) e)

    -- the first record is of no slot before it
    same_any : (x : ℕ) → i ≡ x → same_slot p k ≡ true → Sorted n s (suc i) (same_cut g r k)
    same_any zero is e = absurd (true≢false (sym (lt-ltb 0 p.slots (begun-some p k e)) ∙ h.none is))
    same_any (suc j) is e = same j (sym is) e

  pub sorted_more : (low : Bool) (i : ℕ) (g : Cut) → (g.known.number ≡ 0 → Sorted n s i g) → (cut_more most_ports low (record_at n s i) g).known.number ≡ 0 → Sorted n s (suc i) (cut_more most_ports low (record_at n s i) g)
  unfolding numbered
  sorted_more low i g h = cases low (record_at n s i) g (λ q. q.known.number ≡ 0 → Sorted n s (suc i) q)
      (λ other e. absurd (other e))
      (λ ok e _. same_any low i g (h ok.number) i refl e)
      (λ ok a e _. next low i g (h ok.number) a e)
      (λ ok a _ _. new low i g (h ok.number) a)

  pub sorted_none : (p : Known) → begun p ≡ false → Sorted n s 0 (uncut p)
  unfolding slots_in slots_of of_slot steps
  sorted_none p e = record { none = λ _. e; last = λ j x. absurd (omega (arith, x)); many = rw (all_shut (uncut p) e); each = λ q. rw (all_shut (uncut p) e) }

  pub sorted : (low : Bool) (p : Known) → begun p ≡ false → (i : ℕ) → (cut most_ports low n s p i).known.number ≡ 0 → Sorted n s i (cut most_ports low n s p i)
  unfolding cut
  sorted low p e i = kept _ _ (λ i g. g.known.number ≡ 0 → Sorted n s i g) i (λ i g l h. sorted_more low i g h) (λ _. sorted_none p e)
