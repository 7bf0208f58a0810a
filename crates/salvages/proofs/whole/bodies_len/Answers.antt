-- `salvages::whole::bodies_len` meets its contract.
use native.Mathlib.Omega.{arith}
use lib.ListN.{get_or}
use borrow.Author.Rules.{rules}
use Rattle.frames.specs.Part.{most_ports}
use Rattle.trace_writer.proofs.Starts.{start_zero, start-next, size_is}
use Rattle.salvages.proofs.whole.bodies_len.Goals as goal

pub loop-count-init : goal.loop-count-init
loop-count-init c = (rw start_zero, search rules)

pub loop-count-preserved : goal.loop-count-preserved
loop-count-preserved c =
    let l = c.loop-count in
    let a = c.args in
    (rw (start-next a.n a.slots.now l.count-index, l.invariant.0, size_is most_ports a.n (get_or a.slots.now l.count-index 0) c.requires.0 c.body_size-len.ensures.0), omega arith)
