-- A record laid into the open body, case by case: the body is then that of the capture cut with a record more.
use mathlib.Core.Path.{◌≡◌, refl, sym, ap, ◌∙◌}
use mathlib.Core.Bool.{Bool, true, false, cond}
use mathlib.Core.List.{List, [], ◌∷◌, ◌++◌, append_assoc}
use Prim.Native.Nat.{ℕ, ◌+◌, ◌*◌, ◌-◌, ◌≤◌, ◌<◌}
use native.Mathlib.Nat.{suc-mul, one-mul, le_trans, le_of_eq}
use native.Mathlib.Numerals.{add-one}
use native.Mathlib.Omega.{arith}
use lib.Dec.{eqb, ltb}
use lib.ListN.{length, drop, length-append}
use lib.Seq.{drop-drop}
use borrow.Author.Tests.{lt-ltb, le-ltb}
use Rattle.laws.specs.Bytes.{big_endian}
use Rattle.frames.specs.Part.{most_ports}
use Rattle.frames.specs.Frame.{room_number}
use Rattle.trace_parts.specs.Layout.{block_len}
use Rattle.trace_parts.specs.Body.{block_at}
use Rattle.trace_writer.specs.Sealing.{field_bytes}
use Rattle.captures.specs.Capture.{record_len, packet_in, frame_of}
use Rattle.captures.specs.declared.packet.Packet.{Packet}
use Rattle.import_steps.specs.Taking.{Known, begun, same_slot, next_slot, heard, slot_begun, taken}
use Rattle.import_steps.specs.Laying.{placed, lay_number, lay_output, fields_now}
use Rattle.import_steps.proofs.Fitting.{Taken, fitting, begun-some}
use Rattle.imports.specs.Cut.{Record, block_of, blocks_of, Cut}
use Rattle.imports.proofs.Lists.{joined_none, joined_map}
use Rattle.imports.proofs.Bodies.{long_more}
use Rattle.imports.proofs.Good.{Good, next-begun}
use Rattle.imports.proofs.Cases.{same_cut, next_cut, new_cut}
use Rattle.imports.proofs.Placed.{placed_same, placed-next, placed_new}

-- the open body without its check
unfoldable pub open_bytes : ℕ → Cut → List ℕ
open_bytes n g = field_bytes g.fields ++ blocks_of n (g.slots ++ (g.records ∷ []))

length_fields : (g : Cut) → length (field_bytes g.fields) ≡ 3
unfolding big_endian
length_fields g = refl

-- where it ends
pub open_long : (n : ℕ) (g : Cut) → Good n g → begun g.known ≡ true → length (open_bytes n g) ≡ block_at n g.known.slots
unfolding open_bytes
open_long n g h e =
    length-append (field_bytes g.fields) _ ∙ rw (length_fields g, long_more n g.slots g.records h.long h.held.framed) (ap (λ (z : ℕ). 3 + z * block_len n) (sym (h.slots e)))

-- what laying a record does to a body that has room for it
unfoldable pub laid_for : Known → Known → Packet → List ℕ → List ℕ → List ℕ
laid_for p q k frame b = cond (ltb (length b) (block_at p.state.ports q.slots)) b (placed p k frame b)

pub lay_is : (low : Bool) (p : Known) (r b : List ℕ) → (taken most_ports low p r).number ≡ 0
    → lay_output most_ports low p r b ≡ laid_for p (taken most_ports low p r) (packet_in low r) (frame_of p.state.ports r) b
unfolding lay_output lay_number room_number laid_for
lay_is low p r b e = rw e (go (ltb (length b) (block_at p.state.ports (taken most_ports low p r).slots)))
  where
    go : (c : Bool) → cond (eqb (cond c 7 0) 0) (placed p (packet_in low r) (frame_of p.state.ports r) b) b ≡ cond c b (placed p (packet_in low r) (frame_of p.state.ports r) b)
    go true = refl
    go false = refl

pub laid_room : (p q : Known) (k : Packet) (frame b : List ℕ) → block_at p.state.ports q.slots ≤ length b → laid_for p q k frame b ≡ placed p k frame b
unfolding laid_for
laid_room p q k frame b h = rw (le-ltb _ _ h)

module _ (n : ℕ) (low : Bool) (r : Record) (g : Cut) (h : Good n g) where
  abbrev p : Known
  p = g.known

  abbrev k : Packet
  k = packet_in low r

  abbrev pub frame : List ℕ
  frame = frame_of p.state.ports r

  whole : Taken most_ports p (length r) k → length r ≡ record_len n
  whole ok = ok.long ∙ ap record_len h.ports

  host : Taken most_ports p (length r) k → k.host < n
  host ok = rw h.ports at (fitting p k ok.fits).host

  frame_is : frame ≡ frame_of n r
  frame_is = ap (λ (z : ℕ). frame_of z r) h.ports

  -- the open body, with what stands before its last block
  abbrev front : List ℕ
  front = field_bytes g.fields ++ blocks_of n g.slots

  open_is : open_bytes n g ≡ front ++ block_of n g.records
  unfolding open_bytes
  open_is = ap (λ (z : List ℕ). field_bytes g.fields ++ z) (joined_map (block_of n) g.slots g.records) ∙ sym (append_assoc (field_bytes g.fields) _ _)

  front_long : begun p ≡ true → length front ≡ block_at n (p.slots - 1)
  front_long e =
      let last : p.slots - 1 ≡ length g.slots = omega (arith, h.slots e) in
      length-append (field_bytes g.fields) _ ∙ rw (length_fields g, h.long, last)

  -- the ports are n
  ported : (slots size : ℕ) → block_at n slots ≤ size → block_at p.state.ports slots ≤ size
  ported slots size room = le_trans (le_of_eq (ap (λ (z : ℕ). block_at z slots) h.ports)) room

  -- the open body with what follows it: a frame of its slot laid into it
  pub put_same : Taken most_ports p (length r) k → same_slot p k ≡ true → (t : List ℕ) → laid_for p (same_cut g r k).known k frame (open_bytes n g ++ t) ≡ open_bytes n (same_cut g r k) ++ t
  unfolding heard open_bytes
  put_same ok a t =
      let open-now : begun p ≡ true = lt-ltb 0 p.slots (begun-some p k a) in
      let d = same_cut g r k in
      let more : open_bytes n d ≡ front ++ block_of n (g.records ++ (r ∷ [])) =
      ap (λ (z : List ℕ). field_bytes g.fields ++ z) (joined_map (block_of n) g.slots (g.records ++ (r ∷ []))) ∙ sym (append_assoc (field_bytes g.fields) _ _) in
      let long : length (open_bytes n g) ≡ block_at p.state.ports p.slots = open_long n g h open-now ∙ ap (λ (z : ℕ). block_at z p.slots) (sym h.ports) in
      let room : block_at p.state.ports p.slots ≤ length (open_bytes n g ++ t) = omega (arith, length-append (open_bytes n g) t) in
      laid_room p d.known k frame (open_bytes n g ++ t) room
      ∙ rw (frame_is, open_is, append_assoc front (block_of n g.records) t) (placed_same n p low r h.ports (host ok) (whole ok) g.records h.held a front t (front_long open-now))
      ∙ sym (append_assoc front (block_of n (g.records ++ (r ∷ []))) t) ∙ ap (λ (z : List ℕ). z ++ t) (sym more)

  -- of the next slot
  pub put_next : Taken most_ports p (length r) k → same_slot p k ≡ false → next_slot p k ≡ true → (t : List ℕ) → block_len n ≤ length t
      → laid_for p (next_cut g r k).known k frame (open_bytes n g ++ t) ≡ open_bytes n (next_cut g r k) ++ drop (block_len n) t
  unfolding slot_begun open_bytes
  put_next ok a x t fits =
      let open-now : begun p ≡ true = next-begun p k x in
      let d = next_cut g r k in
      let more : open_bytes n d ≡ open_bytes n g ++ block_of n (r ∷ []) =
      ap (λ (z : List ℕ). field_bytes g.fields ++ z) (joined_map (block_of n) (g.slots ++ (g.records ∷ [])) (r ∷ [])) ∙ sym (append_assoc (field_bytes g.fields) _ _) in
      let long = open_long n g h open-now in
      let step : (p.slots + 1) * block_len n ≡ p.slots * block_len n + block_len n = ap (λ (z : ℕ). z * block_len n) (add-one p.slots) ∙ suc-mul p.slots (block_len n) in
      let room : block_at n (p.slots + 1) ≤ length (open_bytes n g ++ t) = rw (length-append, long) (omega arith) in
      laid_room p d.known k frame (open_bytes n g ++ t) (ported (p.slots + 1) _ room)
      ∙ rw frame_is (placed-next n p low r h.ports (host ok) (whole ok) a x (open_bytes n g) t long)
      ∙ sym (append_assoc (open_bytes n g) (block_of n (r ∷ [])) (drop (block_len n) t)) ∙ ap (λ (z : List ℕ). z ++ drop (block_len n) t) (sym more)

  -- of a new body, over what was there
  pub put_new : Taken most_ports p (length r) k → same_slot p k ≡ false → next_slot p k ≡ false → (t : List ℕ) → block_at n 1 ≤ length t
      → laid_for p (new_cut g r k).known k frame t ≡ open_bytes n (new_cut g r k) ++ drop (block_at n 1) t
  unfolding slot_begun open_bytes
  put_new ok a x t room =
      let d = new_cut g r k in
      let more : open_bytes n d ≡ field_bytes (fields_now p) ++ block_of n (r ∷ []) = ap (λ (z : List ℕ). field_bytes (fields_now p) ++ z) (joined_map (block_of n) [] (r ∷ []) ∙ rw joined_none) in
      let one : 3 + block_len n ≡ block_at n 1 = ap (λ (z : ℕ). 3 + z) (sym (one-mul (block_len n))) in
      laid_room p d.known k frame t (ported 1 _ room) ∙ rw frame_is (placed_new n p low r h.ports (host ok) (whole ok) a x t)
      ∙ sym (append_assoc (field_bytes (fields_now p)) (block_of n (r ∷ [])) (drop (block_len n) (drop 3 t))) ∙ rw (← more, drop-drop (block_len n) 3 t, one)
