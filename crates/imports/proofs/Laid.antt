-- The bodies as they are laid: those that are complete, then the open one, then what was there.
use mathlib.Core.Path.{◌≡◌, refl, sym, ap, ◌∙◌}
use mathlib.Core.Bool.{Bool, true, false, not, ◌&&◌, cond, and-false}
use mathlib.Core.List.{List, [], ◌++◌, append_assoc, append-nil}
use Prim.Native.Nat.{ℕ, ◌+◌, ◌*◌, ◌≤◌}
use native.Mathlib.Nat.{suc-mul}
use native.Mathlib.Numerals.{add-one}
use native.Mathlib.Omega.{arith}
use lib.Dec.{eqb, ltb}
use lib.ListN.{length, drop, length-append, length-drop}
use lib.Seq.{take_at, drop_at, drop-drop, drop-append-add}
use borrow.Author.Tests.{eq-eqb, ne_eqb, ltb-true, lt-ltb, le-ltb}
use Rattle.laws.proofs.Tests.{every, in_range}
use Rattle.laws.proofs.Bytes.{length_big}
use Rattle.words.specs.Check.{checked}
use Rattle.frames.specs.Part.{most_ports}
use Rattle.frames.specs.Frame.{room_number, written}
use Rattle.lent.specs.Writer.{writer_number}
use Rattle.trace_parts.specs.Layout.{block_len, body_len}
use Rattle.trace_parts.specs.Body.{block_at}
use Rattle.trace_writer.specs.Sealing.{body_of}
use Rattle.captures.specs.Capture.{packet_in, frame_of}
use Rattle.captures.specs.declared.packet.Packet.{Packet}
use Rattle.import_steps.specs.Taking.{Known, numbered, begun, same_slot, next_slot, heard, slot_begun, ends_body}
use Rattle.import_steps.specs.Laying.{is_open, open_len, close_output}
use Rattle.import_steps.proofs.Fitting.{Taken, begun-some}
use Rattle.imports.specs.Cut.{Record, Body, body_bytes, joined_bytes, Cut, open_body, all_bodies, cut_more}
use Rattle.imports.specs.Passes.{from, ended_in, ended_at}
use Rattle.imports.proofs.Lists.{joined_map}
use Rattle.imports.proofs.Good.{Good, all_open, all_shut, next-begun, same_good, next_good, new_good}
use Rattle.imports.proofs.Cases.{cases, declined_cut, same_cut, next_cut, new_cut}
use Rattle.imports.proofs.Open.{open_bytes, open_long, laid_for, put_same, put_next, put_new}

unfoldable pub laid_bytes : ℕ → Cut → List ℕ
laid_bytes n g = joined_bytes n g.bodies ++ cond (begun g.known) (open_bytes n g) []

-- they start the bytes s, of which the rest is as in o, and the open body starts at byte `start`
pub record Laid (n : ℕ) (g : Cut) (o s : List ℕ) (start : ℕ) : Type 0 where
  pub at : start ≡ length (joined_bytes n g.bodies)
  pub is : s ≡ laid_bytes n g ++ drop (length (laid_bytes n g)) o

-- ---- a body closed

-- f done behind p
pub from-behind : (at : ℕ) (f : List ℕ → List ℕ) (p q : List ℕ) → length p ≡ at → from at f (p ++ q) ≡ p ++ f q
from-behind at f p q e = rw (take_at p q at e, drop_at p q at e)

pub closed_behind : (p : Known) (b t : List ℕ) → is_open most_ports p ≡ true → length b ≡ block_at p.state.ports p.slots → 2 ≤ length t
    → close_output most_ports p (b ++ t) ≡ checked b ++ drop 2 t
unfolding writer_number room_number written body_len
closed_behind p b t o long two =
    let all = length-append b t in
    let room : ltb (length (b ++ t)) (block_at p.state.ports p.slots + 2) ≡ false = le-ltb (length (b ++ t)) (block_at p.state.ports p.slots + 2) (omega arith) in
    rw (o, room, take_at b t (block_at p.state.ports p.slots) long, ← long, drop-append-add b t 2)

-- all bodies, the open one with its check
pub joined_open : (n : ℕ) (g : Cut) → begun g.known ≡ true → joined_bytes n (all_bodies g) ≡ joined_bytes n g.bodies ++ checked (open_bytes n g)
unfolding body_bytes body_of open_bytes
joined_open n g e = ap (joined_bytes n) (all_open g e) ∙ joined_map (body_bytes n) g.bodies (open_body g)

pub laid_open : (n : ℕ) (g : Cut) → begun g.known ≡ true → laid_bytes n g ≡ joined_bytes n g.bodies ++ open_bytes n g
unfolding laid_bytes
laid_open n g e = rw e

pub laid_shut : (n : ℕ) (g : Cut) → begun g.known ≡ false → laid_bytes n g ≡ joined_bytes n (all_bodies g)
unfolding laid_bytes
laid_shut n g e = rw (e, append-nil, all_shut g e)

pub length_checked : (b : List ℕ) → length (checked b) ≡ length b + 2
length_checked b = length-append b _ ∙ ap (λ (z : ℕ). length b + z) (length_big 2 _)

pub laid_size : (n : ℕ) (g : Cut) → begun g.known ≡ true → length (joined_bytes n (all_bodies g)) ≡ length (laid_bytes n g) + 2
laid_size n g e =
    let a = length-append (joined_bytes n g.bodies) (open_bytes n g) in
    let b = length-append (joined_bytes n g.bodies) (checked (open_bytes n g)) in
    let c = length_checked (open_bytes n g) in
    ap length (joined_open n g e) ∙ rw (laid_open n g e) (omega arith)

pub is_open_lem : (n : ℕ) (g : Cut) → Good n g → begun g.known ≡ true → is_open most_ports g.known ≡ true
unfolding is_open
is_open_lem n g h e = rw h.ports (every (in_range h.start.some h.start.ports) (in_range (ltb-true 0 g.known.slots e) h.most))

-- the open body closed: all bodies, and what was behind them
pub shut_laid : (n : ℕ) (g : Cut) (o s : List ℕ) (start : ℕ) → Good n g → Laid n g o s start → length (joined_bytes n (all_bodies g)) ≤ length o → begun g.known ≡ true
    → from start (close_output most_ports g.known) s ≡ joined_bytes n (all_bodies g) ++ drop (length (joined_bytes n (all_bodies g))) o
shut_laid n g o s start h l room e =
    let j = joined_bytes n g.bodies in
    let b = open_bytes n g in
    let t = drop (length (laid_bytes n g)) o in
    let size = laid_size n g e in
    let left : 2 ≤ length t = rw length-drop (omega arith) in
    let long : length b ≡ block_at g.known.state.ports g.known.slots = open_long n g h e ∙ ap (λ (z : ℕ). block_at z g.known.slots) (sym h.ports) in
    let bytes : s ≡ j ++ (b ++ t) = l.is ∙ rw (laid_open n g e) (append_assoc j b _) in
    rw (bytes, from-behind start (close_output most_ports g.known) j (b ++ t) (sym l.at), closed_behind g.known b t (is_open_lem n g h e) long left, joined_open n g e)
    (rest n g o e)
  where
    rest : (n : ℕ) (g : Cut) (o : List ℕ) → begun g.known ≡ true
        → joined_bytes n g.bodies ++ (checked (open_bytes n g) ++ drop 2 (drop (length (laid_bytes n g)) o))
        ≡ (joined_bytes n g.bodies ++ checked (open_bytes n g)) ++ drop (length (joined_bytes n g.bodies ++ checked (open_bytes n g))) o
    rest n g o e =
        let size : length (joined_bytes n g.bodies ++ checked (open_bytes n g)) ≡ length (laid_bytes n g) + 2 = ap length (sym (joined_open n g e)) ∙ laid_size n g e in
        rw (size, drop-drop 2 (length (laid_bytes n g)) o) (sym (append_assoc (joined_bytes n g.bodies) (checked (open_bytes n g)) _))

-- ---- a record more

-- the bytes with a record more, after which q is known
abbrev laid_to : Known → Known → Packet → List ℕ → ℕ → List ℕ → List ℕ
laid_to p q k frame start s = from (ended_at p q start) (laid_for p q k frame) (ended_in most_ports p q start s)

stays_open : (p q : Known) → q.bodies ≡ p.bodies → ends_body p q ≡ false
stays_open p q e = rw (eq-eqb _ _ e) (and-false (begun p))

module _ (n : ℕ) (low : Bool) (r : Record) (g : Cut) (h : Good n g) (o s : List ℕ) (start : ℕ) (l : Laid n g o s start) where
  abbrev p : Known
  p = g.known

  abbrev k : Packet
  k = packet_in low r

  abbrev frame : List ℕ
  frame = frame_of p.state.ports r

  -- the cut g' of the record's case is laid, where there is room for it
  abbrev Now : Cut → Type 0
  Now d = length (joined_bytes n (all_bodies d)) ≤ length o → Laid n d o (laid_to p d.known k frame start s) (ended_at p d.known start)

  abbrev j : List ℕ
  j = joined_bytes n g.bodies

  abbrev rest : List ℕ
  rest = drop (length (laid_bytes n g)) o

  bytes : begun p ≡ true → s ≡ j ++ (open_bytes n g ++ rest)
  bytes e = l.is ∙ ap (λ (z : List ℕ). z ++ rest) (laid_open n g e) ∙ append_assoc j (open_bytes n g) rest

  -- the open body stays: what laying makes of it
  stays_laid : (q : Known) → q.bodies ≡ p.bodies → begun p ≡ true → (b : List ℕ) → laid_for p q k frame (open_bytes n g ++ rest) ≡ b → laid_to p q k frame start s ≡ j ++ b
  unfolding ended_in ended_at
  stays_laid q same e b is =
      rw (stays_open p q same, bytes e, from-behind start (laid_for p q k frame) j (open_bytes n g ++ rest) (sym l.at), is)

  stays_at : (q : Known) → q.bodies ≡ p.bodies → ended_at p q start ≡ start
  unfolding ended_at
  stays_at q same = rw (stays_open p q same)

  -- a cut whose open body stands behind the same bodies
  abbrev Behind : Cut → Type 0
  Behind d = laid_to p d.known k frame start s ≡ j ++ (open_bytes n d ++ drop (length (j ++ open_bytes n d)) o)

  laid_behind : (d : Cut) → d.bodies ≡ g.bodies → begun d.known ≡ true → d.known.bodies ≡ p.bodies → Behind d → Laid n d o (laid_to p d.known k frame start s) (ended_at p d.known start)
  laid_behind d bodies e same is =
      let bs : joined_bytes n d.bodies ≡ j = ap (joined_bytes n) bodies in
      let all : laid_bytes n d ≡ j ++ open_bytes n d = laid_open n d e ∙ ap (λ (z : List ℕ). z ++ open_bytes n d) bs in
      record {
        at = stays_at d.known same ∙ l.at ∙ ap length (sym bs);
        is = is ∙ sym (append_assoc j (open_bytes n d) _) ∙ rw all;
      }

  same_laid : Taken most_ports p (length r) k → same_slot p k ≡ true → Now (same_cut g r k)
  unfolding heard
  same_laid ok t _ =
      let open-now : begun p ≡ true = lt-ltb 0 p.slots (begun-some p k t) in
      let d = same_cut g r k in
      let same-long : length (open_bytes n d) ≡ length (open_bytes n g) = open_long n d (same_good n low r g h ok t) open-now ∙ sym (open_long n g h open-now) in
      let size : length (j ++ open_bytes n d) ≡ length (laid_bytes n g) = length-append j (open_bytes n d) ∙ ap (λ (z : ℕ). length j + z) same-long ∙ sym (length-append j (open_bytes n g)) ∙ ap length (sym (laid_open n g open-now)) in
      laid_behind d refl open-now refl (stays_laid d.known refl open-now (open_bytes n d ++ rest) (put_same n low r g h ok t rest) ∙ rw size)

  next_laid : Taken most_ports p (length r) k → same_slot p k ≡ false → next_slot p k ≡ true → Now (next_cut g r k)
  unfolding slot_begun
  next_laid ok t x fits =
      let open-now : begun p ≡ true = next-begun p k x in
      let d = next_cut g r k in
      let open-then : begun d.known ≡ true = lt-ltb 0 (p.slots + 1) (omega arith) in
      let long = open_long n g h open-now in
      let long-then : length (open_bytes n d) ≡ block_at n (p.slots + 1) = open_long n d (next_good n low r g h ok x) open-then in
      let step : (p.slots + 1) * block_len n ≡ p.slots * block_len n + block_len n = ap (λ (z : ℕ). z * block_len n) (add-one p.slots) ∙ suc-mul p.slots (block_len n) in
      let ends = laid_size n d open-then in
      let size : length (laid_bytes n d) ≡ length j + block_at n (p.slots + 1) = ap length (laid_open n d open-then) ∙ length-append j (open_bytes n d) ∙ ap (λ (z : ℕ). length j + z) long-then in
      let size-now : length (laid_bytes n g) ≡ length j + block_at n p.slots = ap length (laid_open n g open-now) ∙ length-append j (open_bytes n g) ∙ ap (λ (z : ℕ). length j + z) long in
      let room : block_len n ≤ length rest = rw length-drop (omega arith) in
      let gone : length (laid_bytes n g) + block_len n ≡ length (j ++ open_bytes n d) = omega (arith, length-append j (open_bytes n d)) in
      laid_behind d refl open-then refl (stays_laid d.known refl open-now (open_bytes n d ++ drop (block_len n) rest) (put_next n low r g h ok t x rest room) ∙ rw (drop-drop (block_len n) (length (laid_bytes n g)) o, gone))

  abbrev all : List ℕ
  all = joined_bytes n (all_bodies g)

  pub shut_at : begun p ≡ true → start + open_len p ≡ length all
  unfolding body_len
  shut_at e =
      let size = laid_size n g e in
      let long = open_long n g h e in
      let at = l.at in
      let ports : block_at p.state.ports p.slots ≡ block_at n p.slots = ap (λ (z : ℕ). block_at z p.slots) h.ports in
      omega (arith, length-append j (open_bytes n g), ap length (laid_open n g e))

  -- the bodies before a new one: all, and what was behind them
  ended_laid : (q : Known) → q.bodies ≡ p.bodies + 1 → length all ≤ length o → (ended_in most_ports p q start s ≡ all ++ drop (length all) o) × (ended_at p q start ≡ length all)
  unfolding ended_in ended_at
  ended_laid q more room = go (begun p) refl
    where
      other : eqb q.bodies p.bodies ≡ false
      other = ne_eqb q.bodies p.bodies (λ e. omega arith)

      go : (b : Bool) → begun p ≡ b → (cond (b && not (eqb q.bodies p.bodies)) (from start (close_output most_ports p) s) s ≡ all ++ drop (length all) o)
          × (cond (b && not (eqb q.bodies p.bodies)) (start + open_len p) start ≡ length all)
      go true e = rw other (shut_laid n g o s start h l room e, shut_at e)
      go false e = (l.is ∙ rw (laid_shut n g e), l.at ∙ ap (λ (bs : List Body). length (joined_bytes n bs)) (sym (all_shut g e)))

  new_laid : Taken most_ports p (length r) k → same_slot p k ≡ false → next_slot p k ≡ false → Now (new_cut g r k)
  unfolding slot_begun
  new_laid ok t x fits =
      let d = new_cut g r k in
      let long : length (open_bytes n d) ≡ block_at n 1 = open_long n d (new_good n low r g h ok t x) refl in
      let ends = laid_size n d refl in
      let size : length (laid_bytes n d) ≡ length all + block_at n 1 = ap length (laid_open n d refl) ∙ length-append all (open_bytes n d) ∙ ap (λ (z : ℕ). length all + z) long in
      let behind : List ℕ = drop (length all) o in
      let room : block_at n 1 ≤ length behind = rw length-drop (omega arith) in
      let (region, at) = ended_laid d.known refl (omega arith) in
      let put : laid_for p d.known k frame behind ≡ open_bytes n d ++ drop (length (laid_bytes n d)) o = put_new n low r g h ok t x behind room ∙ rw (drop-drop (block_at n 1) (length all) o, size) in
      record {
        at = at;
        is = rw (at, region, from-behind (length all) (laid_for p d.known k frame) all behind refl, put, laid_open n d refl) (sym (append_assoc all (open_bytes n d) _));
      }

  declined_laid : {number : ℕ} → (number ≡ 0 → ⊥) → number ≡ 0 → Now (declined_cut g number)
  declined_laid other zero = absurd (other zero)

  pub laid_more : (cut_more most_ports low r g).known.number ≡ 0 → Now (cut_more most_ports low r g)
  unfolding numbered
  laid_more = cases low r g (λ d. d.known.number ≡ 0 → Now d) (λ other. declined_laid other) (λ ok a _. same_laid ok a) (λ ok a b _. next_laid ok a b) (λ ok a b _. new_laid ok a b)
