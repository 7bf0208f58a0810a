use Rattle.std.proofs.Common.{arith}
use Rattle.frames.specs.Part.{most_ports}
use Rattle.ledger.proofs.CountLaws.{bit_room, next_bit}
use Rattle.ledger.proofs.counts.raise_row.Goals as goal

pub overflow_add-counts-in-loop-left : goal.overflow_add-counts-in-loop-left
overflow_add-counts-in-loop-left c = let l = c.loop-left in omega (arith, bit_room l.invariant most_ports (omega arith) (omega arith) c.requires.1)

pub loop-left-preserved : goal.loop-left-preserved
loop-left-preserved c = let l = c.loop-left in next_bit l.invariant most_ports (omega arith) (omega arith) c.requires.0
