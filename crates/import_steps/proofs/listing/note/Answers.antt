-- `import_steps::listing::note` meets its contract.
use Rattle.import_steps.specs.Taking.{noted}
use Rattle.import_steps.proofs.listing.note.Goals as goal

pub returns-then-bodies-list : goal.returns-then-bodies-list
unfolding noted
returns-then-bodies-list g c = rw c.if-bodies-list.true

pub returns-else-bodies-list : goal.returns-else-bodies-list
unfolding noted
returns-else-bodies-list g c = rw c.if-bodies-list.false
