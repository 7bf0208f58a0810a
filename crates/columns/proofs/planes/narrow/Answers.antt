use borrow.Author.Rules.{rules}
use borrow.Author.Tests.{eq-eqb, ne_eqb}
use Rattle.columns.specs.Planes.{narrow}
use Rattle.columns.proofs.planes.narrow.Goals as goal

pub returns-then-x-eq0 : goal.returns-then-x-eq0
unfolding narrow
returns-then-x-eq0 c = search (rules, eq-eqb)

pub returns-else-x-eq0 : goal.returns-else-x-eq0
unfolding narrow
returns-else-x-eq0 c = search (rules, ne_eqb)
