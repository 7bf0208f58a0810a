-- `imports::laying::end_body` meets its contract.
use Rattle.import_steps.specs.Taking.{known}
use Rattle.import_steps.specs.Laying.{close_output}
use Rattle.imports.specs.Passes.{ended_at, ended_in}
use Rattle.imports.proofs.Lent.{from_lent}
use mathlib.Core.Path.{refl, sym, ◌∙◌}
use Rattle.frames.specs.Part.{most_ports}
use Rattle.laws.proofs.Tests.{in_range}
use Rattle.import_steps.proofs.Rooms.{opened_ports}
use Rattle.imports.proofs.laying.end_body.Goals as goal

pub returns-then-ends_body : goal.returns-then-ends_body
unfolding ended_at ended_in
returns-then-ends_body c =
    let ends = sym c.ends_body.ensures ∙ c.if-ends_body.true in
    let (some, most) = opened_ports most_ports (known c.args.p) (c.requires.1 ends) in
    rw (ends, c.body_size.ensures.0, in_range some most)
    (refl, from_lent c.args.start (close_output most_ports (known c.args.p)) c.args.region.now _ c.close_body.ensures.1)

pub returns : goal.returns
unfolding ended_at ended_in
returns c =
    let ends = sym c.ends_body.ensures ∙ c.if-ends_body.false in
    rw ends (refl, refl)
