use Rattle.std.proofs.Common.{rules}
use Rattle.frames.specs.Part.{most_ports}
use Rattle.laws.proofs.Branches.{branch}
use Rattle.choices.specs.Choice.{fewest}
use Rattle.choices.proofs.Ports.{is_choice}
use Rattle.central.specs.Central.{winner}
use Rattle.central.proofs.central.winner.Goals as goal

pub returns-then-holds : goal.returns-then-holds
unfolding winner fewest
returns-then-holds c = search branch

pub returns-else-holds : goal.returns-else-holds
unfolding winner fewest
returns-else-holds c = rw (← c.holds.ensures, c.if-holds.false, ← c.column.ensures, ← c.sizes.ensures) (is_choice most_ports _ _ _ _ c.choose.ensures (search rules) (search rules))
