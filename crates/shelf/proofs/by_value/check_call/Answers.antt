use mathlib.Core.Path.{sym}
use native.Mathlib.Omega.{arith}
use lib.ListN.{length}
use borrow.Author.Tests.{lt-ltb, le-ltb}
use Rattle.std.proofs.lemmas.Result.{err_from_is_err_and}
use Rattle.refusals.proofs.Unique.{not_done}
use Rattle.frames.specs.Part.{most_ports}
use Rattle.shelf.proofs.Refusals.{taken}
use Rattle.shelf.proofs.Unawaited.{block_first}
use Rattle.shelf.proofs.by_value.check_call.Goals as goal

pub returns-in_err-check_block : goal.returns-in_err-check_block
returns-in_err-check_block c =
    let p = err_from_is_err_and c.from_residual.result c.from_residual.ensures.1 in
    rw (p.1, p.2, block_first most_ports, ← c.in_err-check_block.ensures, not_done)

pub overflow_mul-state : goal.overflow_mul-state
overflow_mul-state c = omega (arith, (taken most_ports _ _ _ _ _ (sym c.in_ok-check_block.ensures)).ports)

pub returns-then-out-state : goal.returns-then-out-state
returns-then-out-state c =
    let out = c.args.out.now in
    rw (block_first most_ports, ← c.in_ok-check_block.ensures, lt-ltb (length out) _ c.if-out-state.true)

pub returns : goal.returns
returns c = rw (block_first most_ports, ← c.in_ok-check_block.ensures, le-ltb _ _ c.if-out-state.false)
