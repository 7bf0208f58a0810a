-- `queue_records::marks::mark_cells` meets its contract.
use lib.ListN.{length-set}
use Rattle.laws.proofs.Loops.{again}
use Rattle.queue_records.proofs.marks.mark_cells.Goals as goal

pub loop-word-preserved : goal.loop-word-preserved
loop-word-preserved c =
    let l = c.loop-word in
    (simp length-set l.invariant.0, again _ _ l.word-index l.invariant.1 (rw c.from.ensures.0))
