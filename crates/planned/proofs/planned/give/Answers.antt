use borrow.Author.Rules.{rules}
use Rattle.frames.specs.Part.{most_ports}
use Rattle.choices.proofs.Ports.{is_join}
use Rattle.planned.specs.Planned.{give}
use Rattle.planned.proofs.planned.give.Goals as goal

pub returns-then-holds : goal.returns-then-holds
unfolding give
returns-then-holds c = rw (← c.planner-i.ensures.0, ← c.holds.ensures, c.if-holds.true) (is_join most_ports _ _ _ c.join_pair.ensures (search rules) (search rules))

pub returns-else-holds : goal.returns-else-holds
unfolding give
returns-else-holds c = rw (← c.planner-i.ensures.0, ← c.holds.ensures, c.if-holds.false)
