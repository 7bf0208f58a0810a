use Rattle.std.proofs.Common.{sym}
use Rattle.std.proofs.lemmas.Result.{err_from_is_err_and}
use Rattle.refusals.proofs.Unique.{not_done}
use Rattle.frames.specs.Part.{most_ports}
use Rattle.ports.proofs.Numbers.{served}
use Rattle.lcf.specs.Slot.{finish_due}
use Rattle.lcf.proofs.slot.finish_due.Goals as goal

pub returns-in_err-check_due : goal.returns-in_err-check_due
unfolding finish_due
returns-in_err-check_due c =
    let p = err_from_is_err_and c.from_residual.result c.from_residual.ensures.1 in
    rw (p.1, p.2, ← c.in_err-check_due.ensures, not_done)

pub returns : goal.returns
unfolding finish_due
returns c = rw (← c.in_ok-check_due.ensures) c.finish.ensures

pub invariant_of-finish : goal.invariant_of-finish
invariant_of-finish c = let s = served most_ports _ _ _ (sym c.in_ok-check_due.ensures) in record { ready = s.ready; limit = s.limit }
