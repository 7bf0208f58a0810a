use borrow.Author.Rules.{rules}
use Rattle.frames.specs.Part.{most_ports}
use Rattle.laws.proofs.Branches.{branch}
use Rattle.choices.specs.Join.{join_live}
use Rattle.choices.proofs.Ports.{is_join}
use Rattle.distributed.proofs.distributed.favoured.Goals as goal

pub returns-then-holds : goal.returns-then-holds
unfolding join_live
returns-then-holds c = rw (← c.holds.ensures, c.if-holds.true) (is_join most_ports _ _ _ c.join_pair.ensures (search rules) (search rules))

pub returns-else-holds : goal.returns-else-holds
unfolding join_live
returns-else-holds c = search branch
