use mathlib.Core.Path.{refl, sym}
use Rattle.std.proofs.lemmas.Result.{err_from_is_err_and}
use Rattle.refusals.proofs.Unique.{not_done}
use Rattle.frames.specs.Part.{most_ports}
use Rattle.ports.proofs.Numbers.{served}
use Rattle.shelf.specs.Step.{stepped}
use Rattle.shelf.specs.Unanswered.{unanswered}
use Rattle.shelf.proofs.Refusals.{taken}
use Rattle.shelf.proofs.Stepping.{ran}
use Rattle.shelf.proofs.by_value.unanswered.Goals as goal

pub returns-in_err-check_block : goal.returns-in_err-check_block
unfolding unanswered stepped
returns-in_err-check_block c =
    let p = err_from_is_err_and c.from_residual.result c.from_residual.ensures.1 in
    rw (p.1, p.2, ← c.in_err-check_block.ensures, not_done)

pub returns : goal.returns
unfolding unanswered
returns c = ran most_ports _ _ _ _ 0 _ _ c.in_ok-check_block.ensures refl _ _ c.begin.ensures c.finish_due.ensures

pub invariant_of-begin : goal.invariant_of-begin
invariant_of-begin c = record { ready = (served most_ports _ _ _ (taken most_ports _ _ _ _ _ (sym c.in_ok-check_block.ensures)).due).ready }
