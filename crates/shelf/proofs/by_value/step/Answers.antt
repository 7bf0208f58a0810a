use mathlib.Core.Path.{refl, sym}
use Rattle.std.proofs.lemmas.Result.{err_from_is_err_and}
use Rattle.refusals.proofs.Unique.{refused_is_not_done}
use Rattle.frames.specs.Part.{most_ports}
use Rattle.ports.specs.Due.{declined}
use Rattle.ports.proofs.Numbers as numbers
use Rattle.shelf.proofs.Refusals.{taken}
use Rattle.shelf.proofs.Stepping.{refused, done, served}
use Rattle.shelf.proofs.by_value.step.Goals as goal

pub returns-in_err-check_call : goal.returns-in_err-check_call
returns-in_err-check_call c =
    let p = err_from_is_err_and c.from_residual.result c.from_residual.ensures.1 in
    rw (p.1, p.2) (refused most_ports _ _ _ _ _ _ _ c.in_err-check_call.ensures _ (refused_is_not_done _) refl)

-- a slot that is begun is served
pub returns-in_err-served : goal.returns-in_err-served
unfolding declined
returns-in_err-served c = absurd (refused_is_not_done c.in_err-served.field-0.0 (done most_ports _ _ _ _ c.args.link _ _ c.in_ok-check_call.ensures refl _ _ c.begin-begun.ensures c.in_err-served.ensures))

pub write_grants-requires : goal.write_grants-requires
write_grants-requires c = let t = taken most_ports _ _ _ _ _ (sym c.in_ok-check_call.ensures) in t.room

pub returns : goal.returns
returns c = served most_ports _ _ _ _ _ _ _ c.in_ok-check_call.ensures refl _ _ c.begin-begun.ensures c.in_ok-served.ensures _ c.write_grants.ensures

pub invariant_of-shelf : goal.invariant_of-shelf
invariant_of-shelf c = record { ready = (numbers.served most_ports _ _ _ (taken most_ports _ _ _ _ _ (sym c.in_ok-check_call.ensures)).due).ready }
