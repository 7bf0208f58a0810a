-- What is known of a packet that fits, and of a step that takes one.
use Rattle.std.proofs.Common.{◌≡◌, ℕ, ◌+◌, ◌<◌, ◌≤◌, Bool, true, false, cond, not, ◌&&◌, ◌||◌, eqb, ltb, leb, List, length, refl, ◌∙◌, ne_eqb, lt_of_lt_of_le, arith, ltb-false, ltb-true, eqb-true, leb-false}
use borrow.Author.Tests.{eqb-false, not-true}
use Rattle.laws.proofs.Tests.{both, neither}
use Rattle.refusals.specs.Numbers.{number}
use Rattle.refusals.specs.declared.Refusal.{Refusal}
use Rattle.refusals.proofs.Unique.{refused_is_not_done}
use Rattle.frames.specs.Part.{most_ports}
use Rattle.ports.specs.Ready.{Ready}
use Rattle.trace_parts.specs.Layout.{most_mode, most_slots, most_bodies}
use Rattle.captures.specs.Capture.{packet_len, record_len, packet_in}
use Rattle.captures.specs.declared.packet.Packet.{Packet}
use Rattle.import_steps.specs.Taking.{Known, start_number, begun, stale, same_slot, next_slot, new_body, fits, heard, slot_begun, took, step_number, numbered, taken}

pub record Fitting (p : Known) (k : Packet) : Type 0 where
  pub host : k.host < p.state.ports
  pub fresh : begun p && stale p.last k.slot ≡ false
  pub room : new_body p k ≡ true → p.bodies < most_bodies

pub fitting : (p : Known) (k : Packet) → fits p k ≡ true → Fitting p k
unfolding fits
fitting p k e =
    let (a, e1) = both (eqb k.captured (packet_len p.state.ports)) _ e in
    let (b, e2) = both (ltb k.host p.state.ports) _ e1 in
    let (c, d) = both (not (begun p && stale p.last k.slot)) _ e2 in
    record {
      host = ltb-true _ _ b;
      fresh = not-true _ c;
      room = λ f. leb-false most_bodies p.bodies (rw f at (not-true (new_body p k && leb most_bodies p.bodies) d));
    }

pub next-room : (p : Known) (k : Packet) → next_slot p k ≡ true → p.slots < most_slots p.state.ports
unfolding next_slot
next-room p k e =
    let (a, e1) = both (begun p) _ e in
    ltb-true _ _ (both (ltb p.slots (most_slots p.state.ports)) _ e1).0

pub is_new : (p : Known) (k : Packet) → same_slot p k ≡ false → next_slot p k ≡ false → new_body p k ≡ true
unfolding new_body
is_new p k a b = rw (a, b)

-- a state that the numbers 1, 2 and 5 let pass
pub record Startable (m n mode i j : ℕ) : Type 0 where
  pub some : 1 ≤ n
  pub ports : n ≤ m
  pub initiator : i < n
  pub target : j < n
  pub known : leb mode (most_mode n) ≡ true

pub startable : (m n mode i j : ℕ) → start_number m n mode i j ≡ 0 → Startable m n mode i j
unfolding start_number
startable m n mode i j e = ports_case (ltb n 1 || ltb m n) refl
  where
    mode_case : (b : Bool) → leb mode (most_mode n) ≡ b → (ltb n 1 || ltb m n ≡ false) → (leb n i || leb n j ≡ false) → Startable m n mode i j
    mode_case true q p o =
        let (a, b) = neither (ltb n 1) _ p in
        let (c, d) = neither (leb n i) _ o in
        record { some = ltb-false _ _ a; ports = ltb-false _ _ b; initiator = leb-false _ _ c; target = leb-false _ _ d; known = q }
    mode_case false q p o = let five : ◌≡◌ {A = ℕ} 5 0 = rw (p, o, q) at e in absurd (omega arith)

    offsets_case : (b : Bool) → leb n i || leb n j ≡ b → (ltb n 1 || ltb m n ≡ false) → Startable m n mode i j
    offsets_case true q p = let two : ◌≡◌ {A = ℕ} 2 0 = rw (p, q) at e in absurd (omega arith)
    offsets_case false q p = mode_case (leb mode (most_mode n)) refl p q

    ports_case : (b : Bool) → ltb n 1 || ltb m n ≡ b → Startable m n mode i j
    ports_case true q = let one : ◌≡◌ {A = ℕ} 1 0 = rw q at e in absurd (omega arith)
    ports_case false q = offsets_case (leb n i || leb n j) refl q

-- a record that is taken
pub record Taken (m : ℕ) (p : Known) (len : ℕ) (k : Packet) : Type 0 where
  pub number : p.number ≡ 0
  pub start : Startable m p.state.ports p.mode p.state.initiator.0 p.state.target.0
  pub long : len ≡ record_len p.state.ports
  pub fits : fits p k ≡ true

pub stepped : (m : ℕ) (p : Known) (len : ℕ) (k : Packet) → step_number m p len k ≡ 0 → Taken m p len k
unfolding step_number
stepped m p len k e = number_case (eqb p.number 0) refl
  where
    wrong : ℕ
    wrong = start_number m p.state.ports p.mode p.state.initiator.0 p.state.target.0

    fits_case : (b : Bool) → eqb len (record_len p.state.ports) && fits p k ≡ b → eqb wrong 0 ≡ true → eqb p.number 0 ≡ true → Taken m p len k
    fits_case true q w z =
        let (a, b) = both (eqb len (record_len p.state.ports)) _ q in
        record { number = eqb-true _ _ z; start = startable m _ _ _ _ (eqb-true wrong 0 w); long = eqb-true _ _ a; fits = b }
    fits_case false q w z = let no : ◌≡◌ {A = ℕ} 18 0 = rw (z, w, q) at e in absurd (omega arith)

    wrong_case : (b : Bool) → eqb wrong 0 ≡ b → eqb p.number 0 ≡ true → Taken m p len k
    wrong_case true q z = fits_case (eqb len (record_len p.state.ports) && fits p k) refl q z
    wrong_case false q z = let no : wrong ≡ 0 = rw (z, q) at e in absurd (eqb-false wrong 0 q no)

    number_case : (b : Bool) → eqb p.number 0 ≡ b → Taken m p len k
    number_case true q = wrong_case (eqb wrong 0) refl q
    number_case false q = let no : p.number ≡ 0 = rw q at e in absurd (eqb-false p.number 0 q no)

pub ready : {m : ℕ} (p : Known) → Startable m p.state.ports p.mode p.state.initiator.0 p.state.target.0 → Ready m p.state
ready p s = record { ports = s.ports; initiator = s.initiator; target = s.target }

-- what the step makes of a record that it takes
pub record Stepped (m : ℕ) (low : Bool) (p : Known) (r : List ℕ) : Type 0 where
  pub step : Taken m p (length r) (packet_in low r)
  pub is : taken m low p r ≡ took p (packet_in low r)

pub step_taken : (m : ℕ) (low : Bool) (p : Known) (r : List ℕ) → (taken m low p r).number ≡ 0 → Stepped m low p r
unfolding taken numbered
step_taken m low p r e = go (eqb number 0) refl
  where
    number : ℕ
    number = step_number m p (length r) (packet_in low r)

    go : (b : Bool) → eqb number 0 ≡ b → Stepped m low p r
    go true q = record { step = stepped m p _ _ (eqb-true number 0 q); is = rw q }
    go false q = absurd (eqb-false number 0 q (rw q at e))

pub begun-some : (p : Known) (k : Packet) → same_slot p k ≡ true → 1 ≤ p.slots
unfolding same_slot
begun-some p k e = ltb-true 0 p.slots (both (begun p) _ e).0

-- the open body has the packet's slot
pub took-some : (p : Known) (k : Packet) → 1 ≤ (took p k).slots
unfolding took heard slot_begun
took-some p k = go (same_slot p k) (next_slot p k) refl
  where
    go : (a b : Bool) → same_slot p k ≡ a → 1 ≤ (cond a (heard p k) (cond b (slot_begun p k p.first (p.slots + 1) p.bodies) (slot_begun p k k.slot 1 (p.bodies + 1)))).slots
    go true b e = begun-some p k e
    go false true e = omega arith
    go false false e = omega arith

-- no number is given by it
pub took_number : (p : Known) (k : Packet) → (took p k).number ≡ p.number
unfolding took heard slot_begun
took_number p k = go (same_slot p k) (next_slot p k)
  where
    go : (a b : Bool) → (cond a (heard p k) (cond b (slot_begun p k p.first (p.slots + 1) p.bodies) (slot_begun p k k.slot 1 (p.bodies + 1)))).number ≡ p.number
    go true b = refl
    go false true = refl
    go false false = refl

-- its host is a port of the shelf
pub host_small : (p : Known) (len : ℕ) (k : Packet) → step_number most_ports p len k ≡ 0 → k.host < 16
host_small p len k e =
    let t = stepped most_ports p len k e in
    lt_of_lt_of_le (fitting p k t.fits).host t.start.ports

-- a record that is declined, and one that is taken
pub taken_err : (low : Bool) (p : Known) (r : List ℕ) (why : Refusal) → number why ≡ step_number most_ports p (length r) (packet_in low r)
    → numbered (number why) p ≡ taken most_ports low p r
unfolding taken
taken_err low p r why e = rw (ne_eqb _ _ (λ z. refused_is_not_done why (e ∙ z)), e) refl

pub taken_ok : (low : Bool) (p : Known) (r : List ℕ) → 0 ≡ step_number most_ports p (length r) (packet_in low r) → took p (packet_in low r) ≡ taken most_ports low p r
unfolding taken
taken_ok low p r e = rw (← e)
