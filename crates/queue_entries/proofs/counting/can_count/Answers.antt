-- `queue_entries::counting::can_count` meets its contract.
use mathlib.Core.Path.{refl}
use Rattle.std.proofs.lemmas.Result.{err_from_is_err_and}
use Rattle.refusals.proofs.Unique.{refused_is_not_done}
use Rattle.queue_entries.specs.Counting.{count_number}
use Rattle.queue_entries.proofs.Adds.{pair_declined, pair_found}
use Rattle.queue_entries.proofs.counting.can_count.Goals as goal

pub returns-in_err-check_pair : goal.returns-in_err-check_pair
unfolding count_number
returns-in_err-check_pair c =
    let p = err_from_is_err_and c.from_residual.result c.from_residual.ensures.1 in
    rw (p.1, p.2) (pair_declined _ _ _ _ c.in_err-check_pair.ensures (refused_is_not_done _))

pub returns-then-in_order : goal.returns-then-in_order
unfolding count_number
returns-then-in_order c = rw (pair_found _ _ _ c.in_ok-check_pair.ensures, ← c.in_order.ensures, c.if-in_order.true) refl

pub returns : goal.returns
unfolding count_number
returns c = rw (pair_found _ _ _ c.in_ok-check_pair.ensures, ← c.in_order.ensures, c.if-in_order.false) refl
