use Rattle.laws.proofs.Branches.{branch}
use Rattle.ports.specs.Owners.{among}
use Rattle.hearing.proofs.among.Goals as goal

pub returns-then-holds : goal.returns-then-holds
unfolding among
returns-then-holds c = search branch

pub returns-else-holds : goal.returns-else-holds
unfolding among
returns-else-holds c = search branch
