-- The trace of a capture that is cut: its counts fit, and its length is known of the last record.
use mathlib.Core.Path.{◌≡◌, refl, sym, ap, ◌∙◌}
use mathlib.Core.Bool.{true, false}
use mathlib.Core.List.{List, ◌++◌, append_assoc, map}
use Prim.Native.Nat.{ℕ, ◌+◌, ◌*◌, ◌-◌, ◌≤◌, ◌<◌}
use native.Mathlib.Nat.{le_refl}
use native.Mathlib.Omega.{arith}
use lib.Dec.{eqb, ltb}
use lib.ListN.{length, get_or, take, drop, length-map, length-take}
use lib.Seq.{take_at, drop-drop, drop_at}
use borrow.Rule.Slice.PartMut.{mid_of, put_mid, mid_len}
use borrow.Author.Tests.{eq-eqb, ne_eqb, lt-ltb, le-ltb, le-leb}
use Rattle.import_steps.specs.Taking.{Known}
use Rattle.laws.specs.Tests.{between}
use Rattle.laws.proofs.Every.{each_every}
use Rattle.laws.proofs.Tests.{every, in_range}
use Rattle.refusals.specs.Numbers.{Answer}
use Rattle.frames.specs.Part.{most_ports}
use Rattle.frames.specs.Frame.{room_number, written}
use Rattle.lent.specs.Writer.{writer_number}
use Rattle.trace_parts.specs.Layout.{block_len, contents_len, most_slots, most_bodies}
use Rattle.trace_parts.proofs.BodyLaws.{sound}
use Rattle.trace_writer.specs.Writer.{counts_fit, contents_of, contents_output, trace_of}
use Rattle.trace_writer.proofs.Fitting.{length_contents}
use Rattle.imports.specs.Cut.{Body, joined_bytes, Cut, all_bodies}
use Rattle.imports.specs.Import.{firsts_of, counts_of, trace_for, length_for, refused, cut_number, cut_answer, cut_output}
use Rattle.imports.specs.declared.answer.Imported.{Imported}
use Rattle.imports.proofs.Good.{Good, sound_all}
use Rattle.imports.proofs.Lent.{from_lent}

pub length_counts : (bs : List Body) → length (counts_of bs) ≡ length bs
length_counts bs = length-map bs (λ (b : Body). length b.slots)

pub length_firsts : (bs : List Body) → length (firsts_of bs) ≡ length bs
length_firsts bs = length-map bs (λ (b : Body). b.first)

module _ (n : ℕ) (g : Cut) (h : Good n g) where
  abbrev bs : List Body
  bs = all_bodies g

  -- first slots and slot counts are those of a trace
  pub counts_fit_lem : counts_fit most_ports n (firsts_of bs) (counts_of bs) ≡ true
  unfolding counts_fit
  counts_fit_lem =
      let few = h.few in
      let many = h.bodies in
      let counts = length_counts bs in
      every (in_range h.start.some h.start.ports)
      (every (eq-eqb _ _ (length_firsts bs ∙ sym counts))
      (every (le-leb (length (counts_of bs)) most_bodies (omega arith))
      (each_every (λ k. between 1 (most_slots n) (get_or (counts_of bs) k 0)) (length (counts_of bs)) (λ k l.
      let whole = (sound most_ports n _ _ (sound_all n g h k (rw counts at l))).whole in
      in_range whole.least whole.most))))

  -- the length, of the bodies begun and of all their slots
  pub length_is : contents_len g.known.bodies + (g.known.bodies * 5 + g.known.state.due * block_len n) ≡ length_for n bs
  unfolding length_for
  length_is = sym (rw (length_counts bs, ← h.bodies, h.total))

  pub slots_most : g.known.state.due ≤ 368640
  slots_most = let few = h.few in let due = h.due in omega arith

  pub counts_few : length (counts_of bs) ≤ most_bodies
  counts_few = let few = h.few in let many = h.bodies in let counts = length_counts bs in omega arith

  pub contents_room : (len : ℕ) → length_for n bs ≤ len → contents_len (length (counts_of bs)) ≤ len
  unfolding length_for
  contents_room len room = omega arith

  -- contents, then bodies
  module _ (out one : List ℕ) (at : ℕ) (e : at ≡ contents_len (length (counts_of bs))) (room : length_for n bs ≤ length out) where
    pub bodies_room : length one ≡ length out → length (joined_bytes n bs) ≤ length (mid_of at (length one - at) one)
    unfolding length_for
    bodies_room long = omega (arith, mid_len at (length one) one (le_refl (length one)))

    contents_are : one ≡ contents_output most_ports n (firsts_of bs) (counts_of bs) out → one ≡ contents_of n (firsts_of bs) (counts_of bs) ++ drop at out
    unfolding writer_number room_number written
    contents_are is =
        let enough : ltb (length out) (contents_len (length (counts_of bs))) ≡ false = le-ltb (length out) (contents_len (length (counts_of bs))) (contents_room (length out) room) in
        is ∙ rw (counts_fit_lem, enough, e)

    pub trace_is : (last : List ℕ) → one ≡ contents_output most_ports n (firsts_of bs) (counts_of bs) out
        → last ≡ joined_bytes n bs ++ drop (length (joined_bytes n bs)) (mid_of at (length one - at) one)
        → put_mid at (length one - at) one last ≡ trace_for n bs ++ drop (length_for n bs) out
    unfolding trace_for length_for trace_of
    trace_is last is l =
        let j = joined_bytes n bs in
        let c = contents_of n (firsts_of bs) (counts_of bs) in
        let front : length c ≡ at = length_contents n (firsts_of bs) (counts_of bs) ∙ sym e in
        from_lent at (λ z. j ++ drop (length j) z) one last l
        ∙ rw (contents_are is, take_at c (drop at out) at front, drop_at c (drop at out) at front, drop-drop (length j) at out, e) (sym (append_assoc c j _))

-- ---- the ends of the call, of what is known of the last record

module _ (n : ℕ) (g : Cut) (out : List ℕ) (p : Known) (is : p ≡ g.known) where
  abbrev Ends : Answer Imported → List ℕ → Type 0
  Ends x left = (x ≡ cut_answer n g out) × (left ≡ cut_output n g out)

  abbrev bodies : List Body
  bodies = all_bodies g

  number_is : p.number ≡ g.known.number
  number_is = ap (λ (q : Known). q.number) is

  pub cut-declined : (x : Answer Imported) → (p.number ≡ 0 → ⊥) → x ≡ refused p.number → Ends x out
  unfolding cut_number cut_answer cut_output written
  cut-declined x other e =
      let differs : eqb g.known.number 0 ≡ false = ne_eqb g.known.number 0 (λ q. other (number_is ∙ q)) in
      rw (differs, differs) (e ∙ ap refused number_is, refl)

  pub cut_short : (x : Answer Imported) → p.number ≡ 0 → length out < length_for n bodies → x ≡ refused 7 → Ends x out
  unfolding cut_number cut_answer cut_output written room_number
  cut_short x zero short e = rw (eq-eqb g.known.number 0 (sym number_is ∙ zero), lt-ltb (length out) (length_for n bodies) short) (e, refl)

  pub cut_done : (x : Answer Imported) (left : List ℕ) → p.number ≡ 0 → length_for n bodies ≤ length out → x ≡ record { number = 0; fields = record { length = length_for n bodies; resent = p.resent } }
      → left ≡ trace_for n bodies ++ drop (length_for n bodies) out → Ends x left
  unfolding cut_number cut_answer cut_output written room_number
  cut_done x left zero room e l =
      rw (eq-eqb g.known.number 0 (sym number_is ∙ zero), le-ltb (length out) (length_for n bodies) room)
      (e ∙ ap (λ (q : Known). record { number = 0; fields = record { length = length_for n bodies; resent = q.resent } }) is, l)

  -- its length
  pub length_known : Good n g → contents_len p.bodies + (p.bodies * 5 + p.state.due * block_len p.state.ports) ≡ length_for n bodies
  length_known h =
      ap (λ (q : Known). contents_len q.bodies + (q.bodies * 5 + q.state.due * block_len q.state.ports)) is
      ∙ ap (λ (z : ℕ). contents_len g.known.bodies + (g.known.bodies * 5 + g.known.state.due * block_len z)) h.ports ∙ length_is n g h

  pub known_small : Good n g → (p.state.ports ≤ most_ports) × (p.state.due ≤ 368640)
  known_small h =
      let ports = ap (λ (q : Known). q.state.ports) is ∙ h.ports in
      let due = ap (λ (q : Known). q.state.due) is in
      let few = slots_most n g h in
      (omega (arith, h.start.ports), omega arith)

  -- what is noted of the bodies, in a list that has a place for each
  pub noted_long : Good n g → (f : Body → ℕ) (s : List ℕ) → take p.bodies s ≡ map f bodies → p.bodies ≡ length (take p.bodies s)
  noted_long h f s e = ap (λ (q : Known). q.bodies) is ∙ h.bodies ∙ sym (ap length e ∙ length-map bodies f)

pub prefix_within : (b : ℕ) (s : List ℕ) → b ≡ length (take b s) → b ≤ length s
prefix_within b s e = omega (arith, length-take b s)
