use borrow.Author.Rules.{rules}
use Rattle.frames.specs.Part.{most_ports}
use Rattle.choices.proofs.Ports.{is_chosen}
use Rattle.distributed.proofs.distributed.grant.Goals as goal

pub returns : goal.returns
returns c = is_chosen most_ports _ _ _ _ _ _ c.turned-from.ensures c.choose.ensures (search rules) (search rules) (search rules) (search rules)
