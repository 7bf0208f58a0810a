-- The fields of the grant frame that holds a set, to bytes and back, over the set's width.
use mathlib.Core.Path.{◌≡◌, refl, sym, ap, ◌∙◌}
use mathlib.Core.List.{List, [], ◌∷◌}
use mathlib.Core.Bool.{Bool, true, false, cond}
use Prim.Native.Nat.{ℕ, ◌+◌, ◌^◌, ◌<◌}
use native.Mathlib.Nat.{le_of_eq}
use native.Mathlib.Omega.{arith}
use borrow.Author.Tests.{ltb-true, lt-ltb}
use lib.Dec.{ltb}
use lib.ListN.{length, take}
use lib.Seq.{take_all}
use Rattle.std.specs.Prelude.{Ok}
use Rattle.refusals.specs.Numbers.{answer_of}
use Rattle.laws.specs.Bytes.{Bytes, big_endian, number}
use Rattle.laws.proofs.Bytes.{length_big, number_big, number_small, big_number, bytes_drop}
use Rattle.laws.proofs.Tests.{both, every}
use Rattle.frames.specs.Width.{set_bits}
use Rattle.frames.specs.Flags.{zeros_above}
use Rattle.frames.specs.Held.{held_len, held_type, held_agrees, held_in_form, held_body, held_frame, held_of, held_body_in_form, no_held, held_number, read_held, write_held_number}
use Rattle.frames.specs.Frame.{sealed, body_of, room_number}
use Rattle.frames.specs.declared.held.Held.{Held}
use Rattle.frames.proofs.FlagLaws.{flags_read, flags-written}
use Rattle.frames.proofs.FrameLaws.{length_sealed, sound, form-sealed, body_sealed, sealed-form, body_bytes, body_long, formed_zero, answered_zero}

module _ (w : ℕ) where
  length_body : (g : Held) → length (held_body w g) + 3 ≡ held_len w
  length_body g = omega (arith, length_big w g.set)

  pub length_held : (g : Held) → length (held_frame w g) ≡ held_len w
  unfolding held_frame
  length_held g = length_sealed (held_type w) (held_body w g) ∙ length_body g

  set_back : (x : ℕ) → x < 256 ^ w → number (take w (big_endian w x)) ≡ x
  set_back x h = ap number (take_all w (big_endian w x) (le_of_eq (length_big w x))) ∙ number_big w x h

  held_of_body : (g : Held) → held_in_form w g ≡ true → (held_of w (held_body w g) ≡ g) × (held_body_in_form w (held_body w g) ≡ true)
  unfolding held_of held_body_in_form held_in_form
  held_of_body g e =
      let (node, more) = both (ltb g.nodeid (set_bits w)) _ e in
      let (fits, agrees) = both (ltb g.set (256 ^ w)) _ more in
      let f = flags_read g.gntval g.linkerr g.crcerr in
      let set = set_back g.set (ltb-true _ _ fits) in
      let same : held_of w (held_body w g) ≡ g = λ i. record { nodeid = g.nodeid; gntval = f.1 i; linkerr = f.2 i; crcerr = f.3 i; set = set i } in
      (same, every f.0 (every node (ap held_agrees same ∙ agrees)))

  body_held_of : (body : List ℕ) → Bytes body → length body ≡ w + 2 → held_body_in_form w body ≡ true → (held_body w (held_of w body) ≡ body) × (held_in_form w (held_of w body) ≡ true)
  unfolding held_of held_body_in_form held_in_form
  body_held_of [] bytes long e = absurd (omega arith)
  body_held_of (a ∷ []) bytes long e = absurd (omega arith)
  body_held_of (a ∷ f ∷ s) bytes long e =
      let (low, more) = both (zeros_above f) _ e in
      let (node, agrees) = both (ltb a (set_bits w)) _ more in
      let rest : length s ≡ w = omega arith in
      let bs = bytes_drop 2 (a ∷ f ∷ s) bytes in
      let set : big_endian w (number (take w s)) ≡ s = big_number s bs w (le_of_eq (sym rest)) ∙ take_all w s (le_of_eq rest) in
      let fits : number (take w s) < 256 ^ w = omega (arith, number_small w 0 s bs) in
      (rw (flags-written f low, set), every node (every (lt-ltb _ _ fits) agrees))

  pub held_reads : (g : Held) → held_in_form w g ≡ true → read_held w (held_frame w g) ≡ answer_of no_held (Ok g)
  unfolding held_frame
  held_reads g e =
      let read = held_of_body g e in
      rw (form-sealed (held_len w) (held_type w) (held_body w g) (length_body g), body_sealed (held_len w) (held_type w) (held_body w g) (length_body g), read.1, read.0)

  pub held_writes : (s : List ℕ) → Bytes s → (g : Held) → read_held w s ≡ answer_of no_held (Ok g) → (held_frame w g ≡ s) × (held_in_form w g ≡ true)
  unfolding held_frame
  held_writes s bytes g e =
      let len = held_len w in
      let body = body_of len s in
      let read = answered_zero (held_number w s) (held_of w body) no_held g e in
      let (opened, formed) = formed_zero len (held_type w) (held_body_in_form w) s read.0 in
      let long : length body ≡ w + 2 = body_long len s (sound len (held_type w) s opened).long ∙ omega arith in
      let back = body_held_of body (body_bytes len s bytes) long formed in (
        ap (held_frame w) (sym read.1) ∙ ap (sealed (held_type w)) back.0 ∙ sym (sealed-form len (held_type w) s (omega arith) bytes opened),
        rw read.1 at back.1,
      )

  pub write_held_form : (g : Held) (out : List ℕ) → write_held_number w g out ≡ 0 → held_in_form w g ≡ true
  write_held_form g out e = go (held_in_form w g) e
    where
      go : (b : Bool) → cond b (room_number (held_len w) out) 11 ≡ 0 → b ≡ true
      go true z = refl
      go false z = absurd (omega arith)
