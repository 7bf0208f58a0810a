use Rattle.std.proofs.Common.{rules, ◌≡◌, sym, ap, ◌∙◌, ◌+◌, ◌*◌, ◌≤◌, length, get_or, [], ◌∷◌, arith}
use Rattle.laws.specs.Bytes.{number}
use Rattle.laws.proofs.Mapped.{made}
use Rattle.words.proofs.BytesAt.{two_at}
use Rattle.table_bytes.specs.Table.{table_of}
use Rattle.table_bytes.proofs.read.Goals as goal

pub returns : goal.returns
unfolding table_of
returns c =
    let bytes = c.args.bytes.now in
    made _ _ _ _
    (λ x y q l k.
    let e : y ≡ number (get_or bytes (x * 2) 0 ∷ get_or bytes (x * 2 + 1) 0 ∷ []) = search rules in
    let room : x * 2 + 2 ≤ length bytes = omega (arith, l, c.requires) in
    (search rules, e ∙ ap number (sym (two_at bytes (x * 2) room))))
    _ c.from_fn.ensures.items
