use borrow.Author.Rules.{rules}
use Rattle.frames.specs.Part.{most_ports}
use Rattle.planned.proofs.Begun.{begun}
use Rattle.planned.proofs.planned.started.Goals as goal

pub returns : goal.returns
returns c = begun _ _ _ most_ports (search rules) c.within.ensures c.empty_table.ensures c.within-2.ensures c.planned.ensures
