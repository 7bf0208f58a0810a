-- What a writer writes reads back as the same fields; and what reads as some fields is, byte for byte, what the writer
-- writes of them. So no two frames read alike, and no malformed frame is read.
use mathlib.Core.Path.{◌≡◌, refl, sym, ap, ◌∙◌}
use mathlib.Core.Logic.{◌↔◌}
use mathlib.Core.Bool.{Bool, true, false, not, cond, true≢false}
use mathlib.Core.List.{List}
use Prim.Native.Nat.{ℕ, ◌^◌, ◌<◌}
use lib.Dec.{eqb, ltb}
use lib.ListN.{get_or, take, replicate}
use borrow.Author.Tests.{eqb-true, eqb-false, ltb-true, not-true}
use Rattle.std.specs.Prelude.{Ok}
use Rattle.refusals.specs.Numbers.{answer_of}
use Rattle.laws.specs.Bytes.{Bytes}
use Rattle.laws.proofs.Tests.{both}
use Rattle.frames.specs.Width.{narrow, set_bits}
use Rattle.frames.specs.Frame.{form_number}
use Rattle.frames.specs.Config.{config_len, config_fields, config_frame, read_config, write_config_number, write_config_output, no_config}
use Rattle.frames.specs.Grant.{read_grant, no_grant}
use Rattle.frames.specs.Held.{held_len, held_in_form, held_frame, read_held, write_held_number, write_held_output, no_held}
use Rattle.frames.specs.declared.config.Config.{Config}
use Rattle.frames.specs.declared.grant.Grant.{Grant}
use Rattle.frames.specs.declared.held.Held.{Held}
use Rattle.frames.proofs.FrameLaws.{written_zero}
use Rattle.frames.proofs.ConfigLaws.{length_config, config_reads, config_writes}
use Rattle.frames.proofs.GrantLaws.{grant_writes}
use Rattle.frames.proofs.HeldLaws.{length_held, held_reads, held_writes, write_held_form}

config_front : (c : Config) (out : List ℕ) → write_config_number out ≡ 0 → take config_len (write_config_output c out) ≡ config_frame c
config_front c out done = written_zero (write_config_number out) config_len (config_frame c) out done (length_config c)

pub config_reads_back : (c : Config) → ((i : ℕ) → get_or (config_fields c) i 0 < 256 ^ narrow) → (out : List ℕ) → write_config_number out ≡ 0
    → read_config (take config_len (write_config_output c out)) ≡ answer_of no_config (Ok c)
config_reads_back c small out done = ap read_config (config_front c out done) ∙ config_reads c small

pub config_writes_back : (s : List ℕ) → Bytes s → (c : Config) → read_config s ≡ answer_of no_config (Ok c) → (out : List ℕ) → write_config_number out ≡ 0
    → take config_len (write_config_output c out) ≡ s
config_writes_back s bytes c e out done = config_front c out done ∙ config_writes s bytes c e

pub config_alike : (s t : List ℕ) → Bytes s → Bytes t → (c : Config) → read_config s ≡ answer_of no_config (Ok c) → read_config t ≡ answer_of no_config (Ok c) → s ≡ t
config_alike s t bs bt c e f = sym (config_writes s bs c e) ∙ config_writes t bt c f

agreement : (b : Bool) (x : ℕ) → cond b (not (eqb x 0)) (eqb x 0) ≡ true → (b ≡ true) ↔ (x ≡ 0 → ⊥)
agreement true x e = (λ _. eqb-false x 0 (not-true _ e), λ _. refl)
agreement false x e = (λ f. absurd (true≢false (sym f)), λ some. absurd (some (eqb-true x 0 e)))

-- over the width of the set
module _ (w : ℕ) where
  held_front : (g : Held) (out : List ℕ) → write_held_number w g out ≡ 0 → take (held_len w) (write_held_output w g out) ≡ held_frame w g
  held_front g out done = written_zero (write_held_number w g out) (held_len w) (held_frame w g) out done (length_held w g)

  pub held_reads_back : (g : Held) (out : List ℕ) → write_held_number w g out ≡ 0
      → read_held w (take (held_len w) (write_held_output w g out)) ≡ answer_of no_held (Ok g)
  held_reads_back g out done = ap (read_held w) (held_front g out done) ∙ held_reads w g (write_held_form w g out done)

  pub held_writes_back : (s : List ℕ) → Bytes s → (g : Held) → read_held w s ≡ answer_of no_held (Ok g) → (out : List ℕ) → write_held_number w g out ≡ 0
      → take (held_len w) (write_held_output w g out) ≡ s
  held_writes_back s bytes g e out done = held_front g out done ∙ (held_writes w s bytes g e).0

  pub held_alike : (s t : List ℕ) → Bytes s → Bytes t → (g : Held) → read_held w s ≡ answer_of no_held (Ok g) → read_held w t ≡ answer_of no_held (Ok g) → s ≡ t
  held_alike s t bs bt g e f = sym (held_writes w s bs g e).0 ∙ (held_writes w t bt g f).0

  -- what is read can be written
  pub held_in_form_lem : (s : List ℕ) → Bytes s → (g : Held) → read_held w s ≡ answer_of no_held (Ok g) → held_in_form w g ≡ true
  held_in_form_lem s bytes g e = (held_writes w s bytes g e).1

  -- and has the number of a bit of its set as nodeId, and gntVal exactly if the set is not empty
  pub held_says : (s : List ℕ) → Bytes s → (g : Held) → read_held w s ≡ answer_of no_held (Ok g) → (g.nodeid < set_bits w) × ((g.gntval ≡ true) ↔ (g.set ≡ 0 → ⊥))
  unfolding held_in_form
  held_says s bytes g e =
      let (node, more) = both (ltb g.nodeid (set_bits w)) _ (held_in_form_lem s bytes g e) in
      let (_, agrees) = both (ltb g.set (256 ^ w)) _ more in
      (ltb-true _ _ node, agreement g.gntval g.set agrees)

pub grant_alike : (s t : List ℕ) → Bytes s → Bytes t → (g : Grant) → read_grant s ≡ answer_of no_grant (Ok g) → read_grant t ≡ answer_of no_grant (Ok g) → s ≡ t
grant_alike s t bs bt g e f = sym (grant_writes s bs g e).0 ∙ (grant_writes t bt g f).0

-- a missing frame, eleven zeros, does not read: by its type
pub zeros_unread : (read_config (replicate config_len 0)).number ≡ 9
unfolding form_number
zeros_unread = refl
