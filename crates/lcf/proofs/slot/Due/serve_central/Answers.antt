use Rattle.std.proofs.Common.{ap}
use Rattle.frames.specs.Part.{most_ports}
use Rattle.ports.proofs.Numbers.{orderly_same}
use Rattle.lcf.proofs.slot.Due.serve_central.Goals as goal

pub returns-then-self-lt-COLUMNS_FROM : goal.returns-then-self-lt-COLUMNS_FROM
returns-then-self-lt-COLUMNS_FROM c = ap (λ s. s.held) (rw (orderly_same most_ports _ c.args.self.ready) at c.serve_targets.ensures)

pub returns-else-self-lt-COLUMNS_FROM : goal.returns-else-self-lt-COLUMNS_FROM
returns-else-self-lt-COLUMNS_FROM c = rw (orderly_same most_ports _ c.args.self.ready) at c.serve_columns.ensures
