-- Bodies of each fate, computed; kept are exactly the sound bodies; and how the form of a complete body is told.
use mathlib.Core.Path.{◌≡◌, refl, sym, ◌∙◌}
use mathlib.Core.Bool.{Bool, true, false, ◌&&◌, cond}
use mathlib.Core.List.{List, [], ◌∷◌, ◌++◌}
use Prim.Native.Nat.{ℕ}
use native.Mathlib.Omega.{arith}
use lib.Dec.{leb}
use lib.ListN.{length, replicate}
use borrow.Author.Tests.{le-leb}
use Rattle.laws.specs.Bytes.{number_from}
use Rattle.laws.specs.Steps.{steps}
use Rattle.laws.specs.Tests.{between}
use Rattle.std.specs.Prelude.{Ok, Err}
use Rattle.refusals.specs.Numbers.{answer_of}
use Rattle.refusals.specs.declared.Refusal.{Refusal}
use Rattle.laws.proofs.Tests.{in_range}
use Rattle.words.specs.Check.{crc_bit, crc_byte, crc_from, intact}
use Rattle.frames.specs.Part.{most_ports}
use Rattle.trace_parts.specs.Layout.{most_bodies, block_len, body_len, most_mode, most_slots}
use Rattle.trace_parts.specs.Body.{fields_of, formed, complete, body_sound, no_fields, read_fields}
use Rattle.trace_parts.specs.declared.body.Fields.{Fields}
use Rattle.trace_parts.proofs.Shown.{shown, declined}
use Rattle.trace_parts.proofs.BodyLaws.{completed, least_body}
use denote.Enum.Bare.{sameb}
use Rattle.body_fates.specs.contracts.body.Fate.{the_type}
use Rattle.body_fates.specs.declared.body.Fate.{Fate}
use Rattle.body_fates.specs.declared.body.Fate.TheVariants.{Kept, Short, Check, Form}
use Rattle.body_fates.specs.Fate.{is_kept, fate}
use Rattle.body_fates.specs.Judged.{none_judged}

-- a body of one slot and one port, of this mode, with these check bytes
abbrev body : ℕ → ℕ → ℕ → List ℕ
body mode high low = (mode ∷ 0 ∷ 0 ∷ []) ++ replicate 11 9 ++ (high ∷ low ∷ [])

-- mode 18 is none: with a right check it is told, with a wrong one the check is, and of a body that is cut neither
fates_told : (fate most_ports 1 1 ((17 ∷ 0 ∷ 0 ∷ []) ++ replicate 11 5 ++ (129 ∷ 228 ∷ [])) ≡ Kept)
    × (fate most_ports 1 1 (body 18 208 70) ≡ Form)
    × (fate most_ports 1 1 (body 18 208 71) ≡ Check)
    × (fate most_ports 1 1 (18 ∷ 0 ∷ 0 ∷ replicate 12 9) ≡ Short)
unfolding crc_from crc_byte crc_bit steps number_from intact block_len body_len most_mode most_slots fields_of formed complete fate
fates_told = (refl, refl, refl, refl)

-- the fields of a complete body can be read exactly if they are of proper form
module _ (m n slots : ℕ) (body : List ℕ) (whole : complete m n slots body ≡ true) where
  readable : leb 3 (length body) && (between 1 m n && formed n (fields_of body)) ≡ formed n (fields_of body)
  readable =
      let known = completed m n slots body whole in
      let some : leb 3 (length body) ≡ true = le-leb 3 (length body) (omega (arith, known.long, least_body n slots)) in
      rw (some, in_range known.some known.ports)

  pub of-form : (f : Fields) → answer_of no_fields (Ok f) ≡ read_fields m n body → formed n (fields_of body) ≡ true
  unfolding read_fields
  of-form f is = sym readable ∙ (shown no_fields (fields_of body) _ f is).0

  pub out_of_form : (why : Refusal) → answer_of no_fields (Err why) ≡ read_fields m n body → formed n (fields_of body) ≡ false
  unfolding read_fields
  out_of_form why is = sym readable ∙ declined no_fields (fields_of body) _ why is

-- whether a body is kept, seen by the equality of fates
pub kept_seen : (f : Fate) → sameb the_type f Kept ≡ is_kept f
kept_seen Kept = refl
kept_seen Short = refl
kept_seen Check = refl
kept_seen Form = refl

pub sound_kept : (m n slots : ℕ) (body : List ℕ) → is_kept (fate m n slots body) ≡ body_sound m n slots body
unfolding fate body_sound
sound_kept m n slots body = go (complete m n slots body) (intact body) (formed n (fields_of body))
  where
    go : (a b c : Bool) → is_kept (cond a (cond b (cond c Kept Form) Check) Short) ≡ (a && (b && c))
    go true true true = refl
    go true true false = refl
    go true false c = refl
    go false b c = refl

-- before any body is judged the table of fates says the same at each of its places
pub none_told : none_judged.fates ≡ replicate most_bodies Kept
unfolding none_judged
none_told = refl
