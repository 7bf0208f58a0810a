use Rattle.choices.specs.Within.{choice_within}
use Rattle.choices.proofs.choice.choose.Goals as goal

pub returns-in-Some : goal.returns-in-Some
unfolding choice_within
returns-in-Some c = rw c.in-Some.ensures.0 (rw (c.in-Some.ensures.1, c.in-Some.ensures.2) at c.choose.ensures.0)

pub returns-in-None : goal.returns-in-None
unfolding choice_within
returns-in-None c = rw c.in-None.ensures
