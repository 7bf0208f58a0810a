use Rattle.std.proofs.Common.{arith}
use Rattle.ports.specs.Due.{behind}
use Rattle.ports.proofs.due.behind.Goals as goal

pub returns : goal.returns
unfolding behind
returns c = omega (arith, c.wrapping_sub_u32.ensures)
