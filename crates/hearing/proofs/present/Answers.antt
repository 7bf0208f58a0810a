use Rattle.std.proofs.Common.{rules, ap, ◌∙◌}
use Rattle.laws.specs.Sets.{has}
use Rattle.laws.proofs.Loops.{done}
use Rattle.hearing.specs.declared.Votes.{Votes}
use Rattle.hearing.proofs.Hearing.{who}
use Rattle.hearing.proofs.present.Goals as goal

pub returns : goal.returns
returns c = λ i. ap (λ (v : Votes). has v.enabled i) (done _ _ _ _ c.loop-h.invariant (search rules) (search rules)) ∙ who _ _ _ _ i
