-- `queues::moving::forward` meets its contract.
use mathlib.Core.Path.{ap, ◌∙◌}
use borrow.Author.Rules.{rules}
use lib.ListN.{length}
use Rattle.frames.specs.Part.{most_ports}
use Rattle.queue_records.specs.Order.{cell_len}
use Rattle.queue_records.specs.Queue.{cell_at, stored}
use Rattle.queue_records.proofs.Pools.{length_stored, length_cell}
use Rattle.queues.proofs.Partings.{one_out, all_out}
use Rattle.queues.proofs.moving.forward.Goals as goal

pub loop-word-preserved : goal.loop-word-preserved
loop-word-preserved c =
    let l = c.loop-word in
    let a = c.args in
    let (cell, place) = c.requires l.word-index (search rules) in
    let x = c.from-entry.result.cell in
    let t = c.from-entry.result.target.0 in
    let is = c.from-entry.ensures in
    let s = c.show.ensures in (
      ap length {y = stored cell_len l.out t (cell_at cell_len a.pool.now x)} s ∙ length_stored cell_len l.out t (cell_at cell_len a.pool.now x) (length_cell cell_len a.pool.now x (rw is.0 cell)) (rw (is.2, l.invariant.0) place) ∙ l.invariant.0,
      one_out most_ports cell_len a.pool.now a.leavers.now l.word-index a.out.now l.out _ x t (search rules) l.invariant.1 is.0 is.2 s,
    )

pub returns : goal.returns
returns c =
    let l = c.loop-word in
    all_out most_ports cell_len c.args.pool.now c.args.leavers.now l.word-index c.args.out.now l.out (search rules) l.invariant.1
