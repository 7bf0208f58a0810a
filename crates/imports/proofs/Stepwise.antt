-- A record at a time, over one lent body that is taken away whenever a record ends it: it holds the open body of the capture cut so far, the
-- bodies taken away are those that the capture is cut into, and so contents and bodies come to the same trace.
use mathlib.Core.Path.{◌≡◌, refl, sym, ap, ◌∙◌}
use mathlib.Core.Bool.{Bool, true, false, cond, and-true, and-false}
use mathlib.Core.List.{List, [], ◌∷◌, ◌++◌}
use Prim.Native.Nat.{ℕ, suc, ◌+◌, ◌*◌, ◌≤◌, ◌<◌}
use native.Mathlib.Nat.{suc-mul, mul-le-mul_right}
use native.Mathlib.Omega.{arith}
use lib.Dec.{eqb}
use lib.ListN.{length, take, drop, length-drop}
use lib.Seq.{take_at, drop-append_seam}
use borrow.Author.Tests.{eq-eqb, ne_eqb, lt-ltb}
use Rattle.frames.specs.Part.{most_ports}
use Rattle.trace_parts.specs.Layout.{block_len, body_len, most_slots}
use Rattle.trace_parts.specs.Body.{block_at}
use Rattle.trace_writer.specs.Sealing.{body_of}
use Rattle.words.specs.Check.{checked}
use Rattle.captures.specs.Capture.{packet_in, frame_of}
use Rattle.captures.specs.declared.packet.Packet.{Packet}
use Rattle.import_steps.specs.Taking.{Known, begun, same_slot, next_slot, heard, slot_begun, numbered, taken, ends_body}
use Rattle.import_steps.specs.Laying.{open_len, close_output, lay_output}
use Rattle.import_steps.proofs.Fitting.{Taken, begun-some, next-room}
use Rattle.imports.specs.Cut.{Record, body_bytes, Cut, open_body, all_bodies, cut_more}
use Rattle.imports.proofs.Along.{known_more}
use Rattle.imports.proofs.Cases.{cases, same_cut, next_cut, new_cut}
use Rattle.imports.proofs.Good.{Good, next-begun}
use Rattle.imports.proofs.Laid.{length_checked, closed_behind, is_open_lem}
use Rattle.imports.proofs.Open.{open_bytes, open_long, laid_for, lay_is, put_same, put_next, put_new}

-- the bytes start with the open body
abbrev pub Starts : ℕ → Cut → List ℕ → Type 0
Starts n g b = b ≡ open_bytes n g ++ drop (length (open_bytes n g)) b

starts : (n : ℕ) (g : Cut) (b t : List ℕ) → b ≡ open_bytes n g ++ t → Starts n g b
starts n g b t e = rw e (ap (λ (z : List ℕ). open_bytes n g ++ z) (sym (drop-append_seam (open_bytes n g) t)))

-- room for any body
abbrev pub Roomy : ℕ → List ℕ → Type 0
Roomy n b = body_len n (most_slots n) ≤ length b

module _ (n : ℕ) (low : Bool) (r : Record) (g : Cut) (h : Good n g) (b : List ℕ) (open-body : begun g.known ≡ true → Starts n g b) (room : Roomy n b) where
  abbrev p : Known
  p = g.known

  abbrev k : Packet
  k = packet_in low r

  abbrev After : Cut → Type 0
  After d = d.known.number ≡ 0 → Starts n d (laid_for p d.known k (frame_of p.state.ports r) b)

  same_step : Taken most_ports p (length r) k → same_slot p k ≡ true → After (same_cut g r k)
  same_step ok a _ =
      let t = drop (length (open_bytes n g)) b in
      let e = open-body (lt-ltb 0 p.slots (begun-some p k a)) in
      starts n (same_cut g r k) _ t (ap (laid_for p (same_cut g r k).known k (frame_of p.state.ports r)) e ∙ put_same n low r g h ok a t)

  next_step : Taken most_ports p (length r) k → same_slot p k ≡ false → next_slot p k ≡ true → After (next_cut g r k)
  unfolding body_len
  next_step ok a x _ =
      let t = drop (length (open_bytes n g)) b in
      let open-now = next-begun p k x in
      let long = open_long n g h open-now in
      let more : p.slots < most_slots n = rw h.ports at (next-room p k x) in
      let most : suc p.slots * block_len n ≤ most_slots n * block_len n = mul-le-mul_right (block_len n) more in
      let step = suc-mul p.slots (block_len n) in
      let left : block_len n ≤ length t = rw length-drop (omega arith) in
      starts n (next_cut g r k) _ (drop (block_len n) t) (ap (laid_for p (next_cut g r k).known k (frame_of p.state.ports r)) (open-body open-now) ∙ put_next n low r g h ok a x t left)

  new_step : Taken most_ports p (length r) k → same_slot p k ≡ false → next_slot p k ≡ false → After (new_cut g r k)
  unfolding body_len most_slots
  new_step ok a x _ =
      let most : 1 * block_len n ≤ 360 * block_len n = mul-le-mul_right (block_len n) (omega arith) in
      starts n (new_cut g r k) _ (drop (block_at n 1) b) (put_new n low r g h ok a x b (omega arith))

  after : After (cut_more most_ports low r g)
  unfolding numbered
  after = cases low r g After (λ other zero. absurd (other zero)) (λ ok a. same_step ok a) (λ ok a x. next_step ok a x) (λ ok a x. new_step ok a x)

  -- what `lay_record` leaves
  pub laid_step : (cut_more most_ports low r g).known.number ≡ 0 → Starts n (cut_more most_ports low r g) (lay_output most_ports low p r b)
  laid_step zero =
      let known = known_more low r g in
      let is = lay_is low p r b (ap (λ (q : Known). q.number) (sym known) ∙ zero) ∙ ap (λ (q : Known). laid_for p q k (frame_of p.state.ports r) b) (sym known) in
      rw is (after zero)

-- what `close_body` leaves: the body
pub closed_step : (n : ℕ) (g : Cut) (b : List ℕ) → Good n g → begun g.known ≡ true → Starts n g b → Roomy n b
    → take (open_len g.known) (close_output most_ports g.known b) ≡ body_bytes n (open_body g)
unfolding body_len body_bytes body_of open_bytes
closed_step n g b h e s room =
    let o = open_bytes n g in
    let t = drop (length o) b in
    let ports : block_at g.known.state.ports g.known.slots ≡ block_at n g.known.slots = ap (λ (z : ℕ). block_at z g.known.slots) h.ports in
    let long : length o ≡ block_at g.known.state.ports g.known.slots = open_long n g h e ∙ sym ports in
    let most : g.known.slots * block_len n ≤ most_slots n * block_len n = mul-le-mul_right (block_len n) h.most in
    let two : 2 ≤ length t = rw length-drop (omega arith) in
    let size : length (checked o) ≡ open_len g.known = length_checked o ∙ ap (λ (z : ℕ). z + 2) long in
    ap (take (open_len g.known)) (ap (close_output most_ports g.known) s ∙ closed_behind g.known o t (is_open_lem n g h e) long two) ∙ take_at (checked o) (drop 2 t) (open_len g.known) size

-- what `ends_body` tells: that this body is complete, and no other
module _ (low : Bool) (r : Record) (g : Cut) where
  abbrev Ends : Cut → Type 0
  Ends d = d.known.number ≡ 0 → d.bodies ≡ cond (ends_body g.known d.known) (g.bodies ++ (open_body g ∷ [])) g.bodies

  stays : (q : Known) → q.bodies ≡ g.known.bodies → g.bodies ≡ cond (ends_body g.known q) (g.bodies ++ (open_body g ∷ [])) g.bodies
  stays q e = rw (eq-eqb _ _ e, and-false)

  ends_new : Ends (new_cut g r (packet_in low r))
  unfolding slot_begun all_bodies
  ends_new _ =
      let other : eqb (g.known.bodies + 1) g.known.bodies ≡ false = ne_eqb (g.known.bodies + 1) g.known.bodies (λ e. omega arith) in
      rw (other, and-true)

  ends : Ends (cut_more most_ports low r g)
  unfolding numbered heard slot_begun
  ends = cases low r g Ends (λ other zero. absurd (other zero)) (λ _ _ _. stays (heard g.known (packet_in low r)) refl) (λ _ _ _ _. stays (next_cut g r (packet_in low r)).known refl) (λ _ _ _. ends_new)

  pub ended_step : (cut_more most_ports low r g).known.number ≡ 0
      → (cut_more most_ports low r g).bodies ≡ cond (ends_body g.known (taken most_ports low g.known r)) (g.bodies ++ (open_body g ∷ [])) g.bodies
  ended_step zero = ends zero ∙ ap (λ (q : Known). cond (ends_body g.known q) (g.bodies ++ (open_body g ∷ [])) g.bodies) (known_more low r g)
