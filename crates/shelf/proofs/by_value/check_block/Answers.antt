use mathlib.Core.Path.{sym}
use native.Mathlib.Omega.{arith}
use borrow.Author.Tests.{eq-eqb, ne_eqb}
use Rattle.std.proofs.lemmas.Result.{err_from_is_err_and}
use Rattle.refusals.proofs.Unique.{not_done}
use Rattle.frames.specs.Part.{most_ports}
use Rattle.shelf.proofs.Refusals.{due_ports}
use Rattle.shelf.proofs.Unawaited.{block_tests}
use Rattle.shelf.proofs.by_value.check_block.Goals as goal

pub returns-in_err-check_due : goal.returns-in_err-check_due
returns-in_err-check_due c =
    let p = err_from_is_err_and c.from_residual.result c.from_residual.ensures.1 in
    rw (p.1, p.2, block_tests most_ports, ← c.in_err-check_due.ensures, not_done)

pub overflow_mul-state : goal.overflow_mul-state
overflow_mul-state c = omega (arith, due_ports most_ports _ _ _ (sym c.in_ok-check_due.ensures))

pub returns-then-block-state : goal.returns-then-block-state
returns-then-block-state c = rw (block_tests most_ports, ← c.in_ok-check_due.ensures, ne_eqb _ _ c.if-block-state.true)

pub returns : goal.returns
returns c = rw (block_tests most_ports, ← c.in_ok-check_due.ensures, eq-eqb _ _ c.if-block-state.false)
