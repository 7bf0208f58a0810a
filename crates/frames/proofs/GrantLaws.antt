-- The fields of the grant frame of type 2, to bytes and back.
use mathlib.Core.Path.{◌≡◌, refl, sym, ap, ◌∙◌}
use mathlib.Core.List.{List, [], ◌∷◌}
use mathlib.Core.Bool.{true}
use Prim.Native.Nat.{ℕ, ◌+◌, ◌-◌, ◌*◌, ◌/◌, ◌%◌, ◌≤◌}
use native.Mathlib.Nat.{div-add-mod'}
use native.Mathlib.Omega.{arith}
use borrow.Author.Tests.{leb-true, le-leb}
use lib.Dec.{leb, lit≤}
use lib.ListN.{length}
use Rattle.std.specs.Prelude.{Ok}
use Rattle.refusals.specs.Numbers.{answer_of}
use Rattle.laws.specs.Bytes.{Bytes}
use Rattle.laws.proofs.Tests.{both}
use Rattle.frames.specs.Flags.{zeros_above}
use Rattle.frames.specs.Grant.{grant_len, grant_type, agrees, in_form, grant_body, grant_frame, grant_of, body_in_form, no_grant, grant_number, read_grant}
use Rattle.frames.specs.Frame.{sealed, body_of}
use Rattle.frames.specs.declared.grant.Grant.{Grant}
use Rattle.frames.proofs.FlagLaws.{flags_read, flags-written}
use Rattle.frames.proofs.FrameLaws.{sound, form-sealed, body_sealed, sealed-form, body_bytes, body_long, formed_zero, answered_zero}

in_form_small : (g : Grant) → in_form g ≡ true → (g.nodeid ≤ 15) × (g.gnt ≤ 15)
unfolding in_form
in_form_small g e =
    let p = both (leb g.nodeid 15) _ e in
    let q = both (leb g.gnt 15) _ p.1 in
    (leb-true _ _ p.0, leb-true _ _ q.0)

grant_of_body : (g : Grant) → in_form g ≡ true → (grant_of (grant_body g) ≡ g) × (body_in_form (grant_body g) ≡ true)
unfolding grant_of body_in_form in_form
grant_of_body g e =
    let small = in_form_small g e in
    let f = flags_read g.gntval g.linkerr g.crcerr in
    let node : (g.nodeid * 16 + g.gnt) / 16 ≡ g.nodeid = omega arith in
    let gnt : (g.nodeid * 16 + g.gnt) % 16 ≡ g.gnt = omega arith in
    let same : grant_of (grant_body g) ≡ g = λ i. record { nodeid = node i; gnt = gnt i; gntval = f.1 i; linkerr = f.2 i; crcerr = f.3 i } in
    (same, rw f.0 (ap agrees same ∙ (both (leb g.gnt 15) _ (both (leb g.nodeid 15) _ e).1).1))

body_grant_of : (body : List ℕ) → Bytes body → length body ≡ grant_len - 3 → body_in_form body ≡ true → (grant_body (grant_of body) ≡ body) × (in_form (grant_of body) ≡ true)
unfolding grant_of body_in_form in_form
body_grant_of [] bytes long e = absurd (omega arith)
body_grant_of (a ∷ []) bytes long e = absurd (omega arith)
body_grant_of (a ∷ f ∷ b ∷ s) bytes long e = absurd (omega arith)
body_grant_of (a ∷ f ∷ []) bytes long e =
    let p = both (zeros_above f) _ e in
    let byte = bytes 0 in
    let node : a / 16 ≤ 15 = omega arith in
    let gnt : a % 16 ≤ 15 = omega arith in
    (rw (div-add-mod' a 16, flags-written f p.0), rw (le-leb _ _ node, le-leb _ _ gnt) p.1)

pub grant_reads : (g : Grant) → in_form g ≡ true → read_grant (grant_frame g) ≡ answer_of no_grant (Ok g)
unfolding grant_frame
grant_reads g e =
    let read = grant_of_body g e in
    rw (form-sealed grant_len grant_type (grant_body g) refl, body_sealed grant_len grant_type (grant_body g) refl, read.1, read.0)

pub grant_writes : (s : List ℕ) → Bytes s → (g : Grant) → read_grant s ≡ answer_of no_grant (Ok g) → (grant_frame g ≡ s) × (in_form g ≡ true)
unfolding grant_frame
grant_writes s bytes g e =
    let body = body_of grant_len s in
    let read = answered_zero (grant_number s) (grant_of body) no_grant g e in
    let zeros = formed_zero grant_len grant_type body_in_form s read.0 in
    let long = body_long grant_len s (sound grant_len grant_type s zeros.0).long in
    let back = body_grant_of body (body_bytes grant_len s bytes) long zeros.1 in (
      ap grant_frame (sym read.1) ∙ ap (sealed grant_type) back.0 ∙ sym (sealed-form grant_len grant_type s (lit≤ tt) bytes zeros.0),
      rw read.1 at back.1,
    )
