use Rattle.std.proofs.Common.{rules}
use Rattle.frames.specs.Part.{most_ports}
use Rattle.choices.specs.Join.{join_live}
use Rattle.choices.proofs.Ports.{is_join}
use Rattle.central.specs.Central.{serve}
use Rattle.central.proofs.central.serve.Goals as goal

pub returns-then-holds : goal.returns-then-holds
unfolding serve join_live
returns-then-holds c =
    rw (← c.pair_at-favoured.ensures.row.0, ← c.pair_at-favoured.ensures.column.0, ← c.winner-i.ensures.0, ← c.holds.ensures, c.if-holds.true) (is_join most_ports _ _ _ c.join_pair.ensures (search rules) (search rules))

pub returns-else-holds : goal.returns-else-holds
unfolding serve join_live
returns-else-holds c = rw (← c.pair_at-favoured.ensures.row.0, ← c.pair_at-favoured.ensures.column.0, ← c.winner-i.ensures.0, ← c.holds.ensures, c.if-holds.false)
