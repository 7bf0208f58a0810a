-- `queues::serving::slot` meets its contract.
use mathlib.Core.Path.{refl}
use borrow.Author.Rules.{rules}
use Rattle.std.proofs.lemmas.Result.{err_from_is_err_and}
use Rattle.refusals.proofs.Unique.{refused_is_not_done}
use Rattle.frames.specs.Part.{most_ports}
use Rattle.ports.specs.Due.{declined}
use Rattle.queue_records.specs.Order.{most_cells, cell_len}
use Rattle.queues.proofs.Serves.{can_move, not_served, is_served}
use Rattle.queues.proofs.serving.slot.Goals as goal

pub returns-in_err-served : goal.returns-in_err-served
unfolding declined
returns-in_err-served c =
    let a = c.args in
    let p = err_from_is_err_and c.from_residual.result c.from_residual.ensures.1 in
    rw (p.1, p.2) (not_served most_ports most_cells cell_len a.words.now a.state a.slot a.mode a.pool.now a.out.now _ c.in_err-served.ensures (refused_is_not_done c.in_err-served.field-0.0))

pub move_heads-requires : goal.move_heads-requires
move_heads-requires c =
    let a = c.args in
    can_move most_ports most_cells cell_len a.words.now a.state a.slot a.mode a.pool.now a.out.now (search rules) _ c.in_ok-served.ensures refl

pub returns : goal.returns
returns c =
    let a = c.args in
    is_served most_ports most_cells cell_len a.words.now a.state a.slot a.mode a.pool.now a.out.now _ _ _ c.in_ok-served.ensures refl c.move_heads.ensures
