use Rattle.frames.specs.Part.{most_ports}
use Rattle.planned.proofs.Begun.{plans}
use Rattle.planned.proofs.planned.planner.Goals as goal

pub returns : goal.returns
returns c = plans most_ports _ _ _ c.args.shelf.ready c.requires c.turned-from.ensures c.column.ensures c.choose.ensures
