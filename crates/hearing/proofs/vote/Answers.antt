use Rattle.laws.proofs.Branches.{branch}
use Rattle.ports.proofs.Owners.{among_le}
use Rattle.hearing.specs.Votes.{heeded}
use Rattle.hearing.proofs.vote.Goals as goal

pub overflow_sub-ballot : goal.overflow_sub-ballot
overflow_sub-ballot c = rw c.among.ensures (among_le _ _ _)

pub returns-then-holds : goal.returns-then-holds
unfolding heeded
returns-then-holds c = rw (← c.holds.ensures, c.if-holds.true, c.among.ensures)

pub returns-else-holds : goal.returns-else-holds
returns-else-holds c = search branch
