-- `import_steps::laying::close_body` meets its contract.
use Rattle.std.proofs.Common.{sym, ◌∙◌}
use Rattle.frames.specs.Part.{most_ports}
use Rattle.lent.proofs.Writes.{unfit, short, wrote}
use Rattle.trace_parts.specs.Layout.{body_len}
use Rattle.import_steps.specs.Taking.{known}
use Rattle.import_steps.proofs.Rooms.{opened_ports, ends_before_check, sealed-front}
use Rattle.import_steps.proofs.laying.close_body.Goals as goal

pub returns-then-not-is_open : goal.returns-then-not-is_open
returns-then-not-is_open c = unfit _ _ _ _ (sym c.is_open.ensures ∙ c.if-not-is_open.true)

pub returns-then-body-len : goal.returns-then-body-len
unfolding body_len
returns-then-body-len c =
    let found = sym c.is_open.ensures ∙ c.if-not-is_open.false in
    let (some, most) = opened_ports most_ports (known c.args.p) found in
    short _ _ _ _ found (rw (ends_before_check _ _ _ _ some most c.body_size-len.ensures.0) at c.if-body-len.true)

pub returns : goal.returns
unfolding body_len
returns c =
    let found = sym c.is_open.ensures ∙ c.if-not-is_open.false in
    let (some, most) = opened_ports most_ports (known c.args.p) found in
    let is = ends_before_check _ _ _ _ some most c.body_size-len.ensures.0 in
    wrote _ _ _ _ found (rw is at c.if-body-len.false) _ (rw (c.seal.ensures, sealed-front _ _ c.args.body.now is c.if-body-len.false, is))
