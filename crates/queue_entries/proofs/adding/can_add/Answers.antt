-- `queue_entries::adding::can_add` meets its contract.
use mathlib.Core.Path.{refl}
use borrow.Author.Tests.{eq-eqb, ne_eqb}
use Rattle.std.proofs.lemmas.Result.{err_from_is_err_and}
use Rattle.refusals.proofs.Unique.{refused_is_not_done}
use Rattle.queue_entries.specs.Adding.{add_number}
use Rattle.queue_entries.proofs.Adds.{pair_declined, pair_found}
use Rattle.queue_entries.proofs.adding.can_add.Goals as goal

pub returns-then-cell-ne-CELL_LEN : goal.returns-then-cell-ne-CELL_LEN
unfolding add_number
returns-then-cell-ne-CELL_LEN c = rw (ne_eqb _ _ c.if-cell-ne-CELL_LEN.true)

pub returns-in_err-check_pair : goal.returns-in_err-check_pair
unfolding add_number
returns-in_err-check_pair c =
    let p = err_from_is_err_and c.from_residual.result c.from_residual.ensures.1 in
    rw (p.1, p.2, eq-eqb _ _ c.if-cell-ne-CELL_LEN.false) (pair_declined _ _ _ _ c.in_err-check_pair.ensures (refused_is_not_done _))

pub returns-then-not-usable : goal.returns-then-not-usable
unfolding add_number
returns-then-not-usable c =
    rw (eq-eqb _ _ c.if-cell-ne-CELL_LEN.false, pair_found _ _ _ c.in_ok-check_pair.ensures, ← c.usable.ensures, c.if-not-usable.true) refl

pub returns-then-held-cells : goal.returns-then-held-cells
unfolding add_number
returns-then-held-cells c =
    rw (eq-eqb _ _ c.if-cell-ne-CELL_LEN.false, pair_found _ _ _ c.in_ok-check_pair.ensures, ← c.usable.ensures, c.if-not-usable.false)
    (rw (← c.held.ensures.0, ← c.cells.ensures.0, eq-eqb _ _ c.if-held-cells.true) refl)

pub returns : goal.returns
unfolding add_number
returns c =
    rw (eq-eqb _ _ c.if-cell-ne-CELL_LEN.false, pair_found _ _ _ c.in_ok-check_pair.ensures, ← c.usable.ensures, c.if-not-usable.false)
    (rw (← c.held.ensures.0, ← c.cells.ensures.0, ne_eqb _ _ c.if-held-cells.false) refl)
