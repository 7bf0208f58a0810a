-- `queue_steps::asking::gather` meets its contract.
use Rattle.std.proofs.Common.{◌≡◌, ◌%◌}
use native.Mathlib.Omega.{arith}
use borrow.Author.Tests.{eq-eqb, ne_eqb}
use Rattle.queue_steps.proofs.asking.gather.Goals as goal

pub returns-then-mark-eq1 : goal.returns-then-mark-eq1
returns-then-mark-eq1 c =
    let same : c.args.t.0 % 16 ≡ c.args.t.0 = omega (arith, c.requires) in
    rw (eq-eqb _ _ c.if-mark-eq1.true) (rw same at c.with.ensures)

pub returns-else-mark-eq1 : goal.returns-else-mark-eq1
returns-else-mark-eq1 c = rw (ne_eqb _ _ c.if-mark-eq1.false)
