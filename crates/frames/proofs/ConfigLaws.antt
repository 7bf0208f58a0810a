-- The configuration frame's fields, to bytes and back, over their width.
use mathlib.Core.Path.{◌≡◌, refl, sym, ap, ◌∙◌}
use mathlib.Core.List.{List}
use Prim.Native.Nat.{ℕ, ◌+◌, ◌*◌, ◌^◌, ◌<◌}
use native.Mathlib.Nat.{le_of_eq}
use lib.Dec.{lit<, lit≤}
use lib.ListN.{length, get_or}
use lib.Seq.{take_all}
use Rattle.std.specs.Prelude.{Ok}
use Rattle.refusals.specs.Numbers.{answer_of}
use Rattle.laws.specs.Steps.{steps}
use Rattle.laws.specs.Bytes.{Bytes, big_endian, row}
use Rattle.laws.proofs.Bytes.{field_row, row_fields}
use Rattle.frames.specs.Width.{narrow}
use Rattle.frames.specs.Config.{config_len, config_type, config_fields, config_frame, config_of, no_config, read_config}
use Rattle.frames.specs.Frame.{sealed, body_of, form_number}
use Rattle.frames.specs.declared.config.Config.{Config}
use Rattle.frames.proofs.FrameLaws.{length_sealed, sound, form-sealed, body_sealed, sealed-form, body_bytes, body_long, answered_zero}

length_row : (c : Config) → length (row narrow (config_fields c)) + 3 ≡ config_len
unfolding steps big_endian
length_row c = refl

pub length_config : (c : Config) → length (config_frame c) ≡ config_len
unfolding config_frame
length_config c = length_sealed config_type (row narrow (config_fields c)) ∙ length_row c

config_of-row : (w : ℕ) (c : Config) → ((i : ℕ) → get_or (config_fields c) i 0 < 256 ^ w) → config_of w (row w (config_fields c)) ≡ c
unfolding config_of
config_of-row w c small =
    let at = field_row w (config_fields c) small in
    λ i. record { req = at 0 (lit< tt) i; pre = at 1 (lit< tt) i; ben = at 2 (lit< tt) i; qen = at 3 (lit< tt) i }

row-config_of : (w : ℕ) (body : List ℕ) → Bytes body → length body ≡ 4 * w → row w (config_fields (config_of w body)) ≡ body
unfolding config_of steps
row-config_of w body bytes long =
    row_fields w body bytes 4 (le_of_eq (sym long)) ∙ take_all (4 * w) body (le_of_eq long)

pub config_reads : (c : Config) → ((i : ℕ) → get_or (config_fields c) i 0 < 256 ^ narrow) → read_config (config_frame c) ≡ answer_of no_config (Ok c)
unfolding config_frame
config_reads c small =
    let body = row narrow (config_fields c) in
    rw (form-sealed config_len config_type body (length_row c), body_sealed config_len config_type body (length_row c), config_of-row narrow c small)

pub config_writes : (s : List ℕ) → Bytes s → (c : Config) → read_config s ≡ answer_of no_config (Ok c) → config_frame c ≡ s
unfolding config_frame
config_writes s bytes c e =
    let body = body_of config_len s in
    let read = answered_zero (form_number config_len config_type s) (config_of narrow body) no_config c e in
    let long = body_long config_len s (sound config_len config_type s read.0).long in
    ap config_frame (sym read.1)
    ∙ ap (sealed config_type) (row-config_of narrow body (body_bytes config_len s bytes) long)
    ∙ sym (sealed-form config_len config_type s (lit≤ tt) bytes read.0)
