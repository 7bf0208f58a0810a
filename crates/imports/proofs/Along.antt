-- Along a capture: what a record more leaves, and what the last says of those before it.
use mathlib.Core.Path.{◌≡◌, refl, sym, ap, ◌∙◌}
use mathlib.Core.Bool.{Bool, true, false, cond}
use mathlib.Core.List.{List, [], ◌++◌}
use Prim.Native.Nat.{ℕ, zero, suc, ◌+◌, ◌*◌, ◌-◌, ◌≤◌, ◌<◌}
use native.Mathlib.Nat.{le_refl, le_trans, mul-le-mul_right, add-suc, add-zero, add-sub_of_le}
use native.Mathlib.Omega.{arith}
use lib.Dec.{eqb, ltb}
use lib.ListN.{length, drop, length-append}
use Rattle.laws.specs.Steps.{steps}
use Rattle.laws.proofs.Tests.{both}
use borrow.Author.Tests.{ne_eqb, lt-ltb, le-ltb}
use Rattle.refusals.specs.Numbers.{number}
use Rattle.refusals.specs.declared.Refusal.{Refusal}
use Rattle.refusals.proofs.Unique.{refused_is_not_done}
use Rattle.frames.specs.Part.{most_ports}
use Rattle.lcf.specs.Advance.{advance}
use Rattle.frames.specs.Frame.{room_number}
use Rattle.trace_parts.specs.Layout.{block_len, body_len, most_bodies}
use Rattle.captures.specs.Capture.{packet_in, record_at}
use Rattle.captures.specs.declared.packet.Packet.{Packet}
use Rattle.import_steps.specs.Taking.{Known, step_number, started, begun, same_slot, next_slot, heard, slot_begun, numbered, taken, ends_body, noted}
use Rattle.import_steps.specs.Laying.{is_open, open_len, close_output, lay_number, lay_output}
use Rattle.import_steps.proofs.Fitting.{step_taken, took-some}
use Rattle.imports.specs.Cut.{Record, Body, joined_bytes, Cut, all_bodies, uncut, cut_more, cut}
use Rattle.imports.specs.Passes.{Fresh, from, ended_at, ended_in, laid_in, shut_in}
use borrow.Rule.Slice.PartMut.{mid_of, put_mid}
use Rattle.trace_parts.specs.Body.{block_at}
use Rattle.imports.proofs.Lent.{from_lent}
use Rattle.imports.proofs.Lists.{length_snoc, joined_none}
use Rattle.imports.proofs.Cases.{cases}
use Rattle.imports.proofs.Noting.{Noted, noted_more}
use Rattle.imports.proofs.Good.{Good, all_shut, due-next, good}
use Rattle.imports.proofs.Open.{open_bytes, lay_is}
use Rattle.imports.proofs.Laid.{Laid, laid_bytes, laid_shut, laid_more, shut_at, shut_laid, is_open_lem}

pub known_more : (low : Bool) (r : Record) (g : Cut) → (cut_more most_ports low r g).known ≡ taken most_ports low g.known r
unfolding cut_more
known_more low r g = go (eqb q.number 0) refl (same_slot g.known k) refl (next_slot g.known k) refl
  where
    q : Known
    q = taken most_ports low g.known r

    k : Packet
    k = packet_in low r

    go : (a : Bool) → eqb q.number 0 ≡ a → (b : Bool) → same_slot g.known k ≡ b → (c : Bool) → next_slot g.known k ≡ c → (cut_more most_ports low r g).known ≡ q
    go true x true y c z = rw (x, y)
    go true x false y true z = rw (x, y, z)
    go true x false y false z = rw (x, y, z)
    go false x b y c z = rw x

-- bodies and slots only grow
record Grown (g d : Cut) : Type 0 where
  bodies : g.known.bodies ≤ d.known.bodies
  due : g.known.state.due ≤ d.known.state.due

grown : (n : ℕ) (low : Bool) (r : Record) (g : Cut) → Good n g → Grown g (cut_more most_ports low r g)
unfolding heard slot_begun numbered advance
grown n low r g h = cases low r g (Grown g)
    (λ _. record { bodies = le_refl _; due = le_refl _ })
    (λ _ _. record { bodies = le_refl _; due = le_refl _ })
    (λ _ _ _. record { bodies = le_refl _; due = rw (due-next n low r g h h.few) (omega arith) })
    (λ _ _ _. record { bodies = omega arith; due = rw (due-next n low r g h h.few) (omega arith) })

pub start-within : (n : ℕ) (g : Cut) (o t : List ℕ) (start : ℕ) → Laid n g o t start → start ≤ length t
unfolding laid_bytes
start-within n g o t start l =
    let j = joined_bytes n g.bodies in
    let x = cond (begun g.known) (open_bytes n g) [] in
    omega (arith, l.at, ap length l.is, length-append (j ++ x) (drop (length (laid_bytes n g)) o), length-append j x)

number_kept : (low : Bool) (p : Known) (r : Record) → (p.number ≡ 0 → ⊥) → (taken most_ports low p r).number ≡ p.number
unfolding taken step_number numbered
number_kept low p r other = rw (ne_eqb p.number 0 other, ne_eqb p.number 0 other) refl

given : (why : Refusal) (p : Known) → number why ≡ (numbered (number why) p).number
unfolding numbered
given why p = refl

module _ (low : Bool) (s : List ℕ) (p : Known) (f : Fresh most_ports p) where
  abbrev n : ℕ
  n = p.state.ports

  abbrev at : ℕ → Cut
  at i = cut most_ports low n s p i

  pub at_more : (i : ℕ) → at (suc i) ≡ cut_more most_ports low (record_at n s i) (at i)
  unfolding cut steps
  at_more i = refl

  pub known_at : (i : ℕ) → (at (suc i)).known ≡ taken most_ports low (at i).known (record_at n s i)
  known_at i = ap (λ (g : Cut). g.known) (at_more i) ∙ known_more low (record_at n s i) (at i)

  -- a number that is given stays
  number_before : (i d : ℕ) → (at (i + d)).known.number ≡ 0 → (at i).known.number ≡ 0
  number_before i zero e = rw (add-zero i) at e
  number_before i (suc d) e =
      number_before i d (step_taken most_ports low _ (record_at n s (i + d)) (ap (λ (q : Known). q.number) (sym (known_at (i + d))) ∙ (rw (add-suc i d) at e))).step.number

  pub sound_before : (i count : ℕ) → i ≤ count → (at count).known.number ≡ 0 → (at i).known.number ≡ 0
  sound_before i count h e = number_before i (count - i) (rw (add-sub_of_le h) e)

  number_after : (i d : ℕ) → ((at i).known.number ≡ 0 → ⊥) → (at (i + d)).known.number ≡ (at i).known.number
  number_after i zero other = rw (add-zero i) refl
  number_after i (suc d) other =
      let before = number_after i d other in
      rw (add-suc i d, known_at (i + d)) (number_kept low (at (i + d)).known (record_at n s (i + d)) (λ e. other (sym before ∙ e)) ∙ before)

  -- the number of a record that is declined is that of the capture
  pub declined_at : (i count : ℕ) (why : Refusal) → suc i ≤ count → numbered (number why) (at i).known ≡ taken most_ports low (at i).known (record_at n s i)
      → number why ≡ (at count).known.number
  declined_at i count why l e =
      let is : number why ≡ (at (suc i)).known.number = given why (at i).known ∙ ap (λ (q : Known). q.number) (e ∙ sym (known_at i)) in
      let later : suc i + (count - suc i) ≡ count = add-sub_of_le l in
      is ∙ sym (rw later at (number_after (suc i) (count - suc i) (λ z. refused_is_not_done why (is ∙ z))))

  abbrev size : ℕ → ℕ
  size i = length (joined_bytes n (all_bodies (at i)))

  size_more : (i : ℕ) → size i ≤ size (suc i)
  size_more i =
      let h = good low s p f i in
      let grew : Grown (at i) (at (suc i)) = rw (at_more i) (grown n low (record_at n s i) (at i) h) in
      let slots = mul-le-mul_right (block_len n) grew.due in
      let bodies = grew.bodies in
      rw (h.total, (good low s p f (suc i)).total) (omega arith)

  size_after : (i d : ℕ) → size i ≤ size (i + d)
  size_after i zero = rw (add-zero i) (le_refl _)
  size_after i (suc d) = rw (add-suc i d) (le_trans (size_after i d) (size_more (i + d)))

  pub fits_before : (i count len : ℕ) → i ≤ count → size count ≤ len → size i ≤ len
  fits_before i count len h fits = le_trans (size_after i (count - i)) (rw (add-sub_of_le h) fits)

  -- nothing is laid yet
  pub laid_none : (o : List ℕ) → Laid n (at 0) o o 0
  unfolding cut steps started
  laid_none o =
      let shut : begun p ≡ false = ap (λ (q : Known). ltb 0 q.slots) f.is in
      let none : laid_bytes n (uncut p) ≡ [] = laid_shut n (uncut p) shut ∙ ap (joined_bytes n) (all_shut (uncut p) shut) ∙ joined_none in
      record { at = sym (ap length joined_none); is = rw none }

  -- record i laid
  pub laid_next : (i count start : ℕ) (o t : List ℕ) → i < count → (at count).known.number ≡ 0 → size count ≤ length o → Laid n (at i) o t start
      → Laid n (at (suc i)) o (laid_in most_ports low (at i).known (record_at n s i) start t) (ended_at (at i).known (taken most_ports low (at i).known (record_at n s i)) start)
  unfolding laid_in cut_more
  laid_next i count start o t l e fits laid =
      let r = record_at n s i in
      let p' = (at i).known in
      let q = taken most_ports low p' r in
      let zero : (at (suc i)).known.number ≡ 0 = sound_before (suc i) count l e in
      let none : q.number ≡ 0 = ap (λ (x : Known). x.number) (sym (known_at i)) ∙ zero in
      let next = laid_more n low r (at i) (good low s p f i) o t start laid (ap (λ (g : Cut). g.known.number) (sym (at_more i)) ∙ zero) (rw (at_more i) at (fits_before (suc i) count (length o) l fits)) in
      rw (at_more i, lay_is low p' r (drop (ended_at p' q start) (ended_in most_ports p' q start t)) none) (rw (known_more low r (at i)) at next)

  -- there is room for the open body with it
  pub lay_zero : (i count start : ℕ) (o t b : List ℕ) → i < count → (at count).known.number ≡ 0 → size count ≤ length o → Laid n (at i) o t start
      → length b ≡ length o - ended_at (at i).known (taken most_ports low (at i).known (record_at n s i)) start
      → lay_number most_ports low (at i).known (record_at n s i) b ≡ 0
  unfolding lay_number room_number body_len
  lay_zero i count start o t b l e fits laid long =
      let r = record_at n s i in
      let q = taken most_ports low (at i).known r in
      let zero : (at (suc i)).known.number ≡ 0 = sound_before (suc i) count l e in
      let none : q.number ≡ 0 = ap (λ (x : Known). x.number) (sym (known_at i)) ∙ zero in
      let step = step_taken most_ports low (at i).known r none in
      let next = laid_next i count start o t l e fits laid in
      let some : begun (at (suc i)).known ≡ true = rw (known_at i, step.is) (lt-ltb _ _ (took-some (at i).known (packet_in low r))) in
      let ends = shut_at n low [] (at (suc i)) (good low s p f (suc i)) o _ _ next some in
      let fit = fits_before (suc i) count (length o) l fits in
      let slots : (at (suc i)).known.slots ≡ q.slots = ap (λ (x : Known). x.slots) (known_at i) in
      let ports : (at (suc i)).known.state.ports ≡ (at i).known.state.ports = (good low s p f (suc i)).ports ∙ sym (good low s p f i).ports in
      let len : open_len (at (suc i)).known ≡ 3 + q.slots * block_len (at i).known.state.ports + 2 = rw (slots, ports) refl in
      let fits-now : block_at (at i).known.state.ports q.slots ≤ length b = omega (arith, ends, len, fit, long) in
      rw (none, le-ltb _ _ fits-now) refl

  -- first slots and slot counts noted with record i
  pub firsts_next : (i : ℕ) (firsts : List ℕ) → length firsts ≡ most_bodies → Noted (λ b. b.first) (at i) firsts
      → Noted (λ b. b.first) (at (suc i)) (noted (at (suc i)).known.bodies (at (suc i)).known.first firsts)
  firsts_next i firsts long q = rw (at_more i) (noted_more n low (record_at n s i) (at i) (good low s p f i) (λ b. b.first) _ firsts long q (λ _. refl))

  pub counts_next : (i : ℕ) (counts : List ℕ) → length counts ≡ most_bodies → Noted (λ b. length b.slots) (at i) counts
      → Noted (λ b. length b.slots) (at (suc i)) (noted (at (suc i)).known.bodies (at (suc i)).known.slots counts)
  counts_next i counts long q =
      let h : Good n (cut_more most_ports low (record_at n s i) (at i)) = rw (at_more i) at (good low s p f (suc i)) in
      rw (at_more i) (noted_more n low (record_at n s i) (at i) (good low s p f i) (λ b. length b.slots) _ counts long q (λ e. length_snoc (cut_more most_ports low (record_at n s i) (at i)).slots (cut_more most_ports low (record_at n s i) (at i)).records ∙ sym (h.slots e)))

  pub noted_first : (g : Body → ℕ) (list : List ℕ) → Noted g (at 0) list
  unfolding cut steps started
  noted_first g list =
      let shut : begun p ≡ false = ap (λ (q : Known). ltb 0 q.slots) f.is in
      let none : p.bodies ≡ 0 = ap (λ (q : Known). q.bodies) f.is in
      rw (all_shut (uncut p) shut, none)

  -- what laying record i asks
  pub ends_open : (i : ℕ) → ends_body (at i).known (taken most_ports low (at i).known (record_at n s i)) ≡ true → begun (at i).known ≡ true
  ends_open i e = (both (begun (at i).known) _ e).0

  pub open_within : (i count start : ℕ) (o t : List ℕ) → i ≤ count → size count ≤ length o → length t ≡ length o → Laid n (at i) o t start → begun (at i).known ≡ true
      → start + open_len (at i).known ≤ length t
  open_within i count start o t l fits long laid e =
      omega (arith, shut_at n low [] (at i) (good low s p f i) o t start laid e, fits_before i count (length o) l fits)

  pub is_open_at : (i : ℕ) → begun (at i).known ≡ true → is_open most_ports (at i).known ≡ true
  is_open_at i e = is_open_lem n (at i) (good low s p f i) e

  -- record i closes a body only where it is open, and within
  pub closes : (i count start : ℕ) (o t : List ℕ) → i < count → size count ≤ length o → length t ≡ length o → Laid n (at i) o t start → (p' q' : Known)
      → p' ≡ (at i).known → q' ≡ taken most_ports low (at i).known (record_at n s i)
      → (start ≤ length t) × (ends_body p' q' ≡ true → is_open most_ports p' ≡ true) × (ends_body p' q' ≡ true → start + open_len p' ≤ length t)
  closes i count start o t l fits long laid p' q' is more =
      rw (is, more) (
        start-within n (at i) o t start laid,
        λ e. is_open_at i (ends_open i e),
        λ e. open_within i count start o t (omega (arith, l)) fits long laid (ends_open i e),
      )

  -- what laying it in what is lent leaves
  pub laid_turn : (i count start start' : ℕ) (o t t' last r : List ℕ) → i < count → (at count).known.number ≡ 0 → size count ≤ length o → Laid n (at i) o t start → (p' q' : Known)
      → p' ≡ (at i).known → q' ≡ taken most_ports low (at i).known (record_at n s i) → r ≡ record_at n s i
      → start' ≡ ended_at p' q' start → t' ≡ ended_in most_ports p' q' start t → last ≡ lay_output most_ports low p' r (mid_of start' (length t' - start') t')
      → Laid n (at (suc i)) o (put_mid start' (length t' - start') t' last) start'
  unfolding laid_in
  laid_turn i count start start' o t t' last r l e fits laid p' q' is more piece at-end ended put =
      rw (from_lent start' (lay_output most_ports low p' r) t' last put, ended, at-end, is, more, piece) (laid_next i count start o t l e fits laid)

  -- the last body closed
  pub shut_last : (count start : ℕ) (o t : List ℕ) → size count ≤ length o → Laid n (at count) o t start
      → shut_in most_ports (at count).known start t ≡ joined_bytes n (all_bodies (at count)) ++ drop (size count) o
  unfolding shut_in
  shut_last count start o t fits laid = go (begun (at count).known) refl
    where
      go : (b : Bool) → begun (at count).known ≡ b → cond b (from start (close_output most_ports (at count).known) t) t ≡ joined_bytes n (all_bodies (at count)) ++ drop (size count) o
      go true e = shut_laid n (at count) o t start (good low s p f count) laid fits e
      go false e = laid.is ∙ rw (laid_shut n (at count) e)
