use Rattle.std.proofs.Common.{lt-ltb, le-ltb}
use Rattle.choices.specs.Within.{place_within}
use Rattle.choices.proofs.rotation.place_of.Goals as goal

pub returns-in-Some : goal.returns-in-Some
unfolding place_within
returns-in-Some c = rw (c.in-Some.ensures.0, lt-ltb _ _ c.if-k-n.true) (rw (c.in-Some.ensures.1, c.in-Some.ensures.2) at c.place.ensures.0)

pub returns-in_default : goal.returns-in_default
unfolding place_within
returns-in_default c = rw (c.in-Some.ensures.0, le-ltb _ _ c.if-k-n.false)

pub returns-in_default-2 : goal.returns-in_default-2
unfolding place_within
returns-in_default-2 c = rw c.in_default.ensures
