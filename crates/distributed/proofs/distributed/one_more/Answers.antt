use Rattle.std.proofs.Common.{rules}
use Rattle.distributed.specs.Distributed.{one_more}
use Rattle.distributed.proofs.distributed.one_more.Goals as goal

pub returns : goal.returns
unfolding one_more
returns c = (rw (c.requires.1, ← c.round.ensures), search rules)
