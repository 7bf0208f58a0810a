-- `queue_records::marks::all_met` meets its contract.
use mathlib.Core.Path.{ap}
use native.Mathlib.Omega.{arith}
use lib.Dec.{eqb}
use lib.ListN.{length-take}
use lib.Seq.{get_or-take}
use Rattle.laws.proofs.Every.{every_again}
use Rattle.queue_records.proofs.marks.all_met.Goals as goal

pub loop-mark-preserved : goal.loop-mark-preserved
loop-mark-preserved c =
    let marks = c.args.marks.now in
    every_again _ _ c.loop-mark.invariant (ap (λ x. eqb x 1) (get_or-take c.args.n marks c.loop-mark.mark-index 0 (omega (arith, length-take c.args.n marks))))
