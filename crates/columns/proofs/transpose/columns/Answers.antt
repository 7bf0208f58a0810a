use Rattle.std.proofs.Common.{rules}
use Rattle.laws.proofs.Loops.{done}
use Rattle.laws.proofs.Rows.{rows}
use Rattle.columns.specs.Transpose.{columns}
use Rattle.columns.proofs.transpose.columns.Goals as goal

pub loop-t-init : goal.loop-t-init
loop-t-init c = search rows

pub loop-t-preserved : goal.loop-t-preserved
loop-t-preserved c = search rows

pub returns : goal.returns
unfolding columns
returns c = rw (← c.transposed-words.ensures) (done _ _ _ _ c.loop-t.invariant (search rules) (search rules))
