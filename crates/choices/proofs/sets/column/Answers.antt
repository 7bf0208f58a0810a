use Rattle.std.proofs.Common.{rules, get_or}
use Rattle.laws.proofs.Loops.{none, again}
use Rattle.frames.specs.Part.{most_ports}
use Rattle.choices.proofs.Ports.{whole_column, gathers}
use Rattle.choices.proofs.sets.column.Goals as goal

pub loop-i-init : goal.loop-i-init
loop-i-init c = none _ _

pub loop-i-preserved : goal.loop-i-preserved
loop-i-preserved c = again _ _ _ c.loop-i.invariant (gathers most_ports (get_or c.args.rows.now c.loop-i.i 0) c.args.t.0 c.loop-i.s c.loop-i.i (search rules) c.gather-s.ensures)

pub returns : goal.returns
returns c = whole_column c.args.rows.now most_ports c.args.n c.loop-i.i (search rules) c.args.t.0 c.loop-i.invariant (search rules) (search rules)
