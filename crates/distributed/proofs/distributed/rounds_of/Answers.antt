use Rattle.std.proofs.Common.{rules, sym, ◌∙◌}
use Rattle.laws.proofs.Loops.{done}
use Rattle.distributed.specs.Distributed.{distributed}
use Rattle.distributed.proofs.Rounds.{at_rest}
use Rattle.distributed.proofs.distributed.rounds_of.Goals as goal

pub one_more-run-requires : goal.one_more-run-requires
one_more-run-requires c = (search rules, sym c.any_live.ensures ∙ c.if-any_live.true)

pub returns-after-loop-k : goal.returns-after-loop-k
unfolding distributed
returns-after-loop-k c = rw (← c.favoured.ensures) (done _ _ _ _ c.loop-k.invariant.0 (search rules) (search rules))

pub returns-else-any_live : goal.returns-else-any_live
unfolding distributed
returns-else-any_live c = rw (← c.favoured.ensures) (at_rest _ _ _ _ c.loop-k.invariant.0 (search rules) (sym c.any_live.ensures ∙ c.if-any_live.false))
