use mathlib.Core.Bool.{and-false}
use Rattle.choices.specs.Within.{turned_within}
use Rattle.choices.proofs.rotation.turned.Goals as goal

pub returns-in-Some : goal.returns-in-Some
unfolding turned_within
returns-in-Some c = rw (c.in-Some.ensures.0, c.if-x-n.true) (rw (c.in-Some.ensures.1, c.in-Some.ensures.2) at c.turned.ensures)

pub returns-in_default : goal.returns-in_default
unfolding turned_within
returns-in_default c = rw (c.if-x-n.false, and-false)

pub returns-in_default-2 : goal.returns-in_default-2
unfolding turned_within
returns-in_default-2 c = rw c.in_default.ensures
