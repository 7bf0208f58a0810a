use Rattle.std.proofs.Common.{rules}
use Rattle.distributed.specs.Distributed.{round}
use Rattle.distributed.proofs.Rounds.{all_answered}
use Rattle.distributed.proofs.distributed.round.Goals as goal

pub returns : goal.returns
unfolding round
returns c = all_answered _ _ c.offers-offered.result _ c.loop-i.i _ c.offers-offered.ensures (rw (c.sizes-counts.ensures, c.askers-asked.ensures)) c.loop-i.invariant (search rules) (search rules)
