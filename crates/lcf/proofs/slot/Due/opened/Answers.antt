use Rattle.frames.specs.Part.{most_ports}
use Rattle.ports.proofs.Numbers.{orderly_same}
use Rattle.lcf.proofs.slot.Due.opened.Goals as goal

pub returns-in-Diagonal : goal.returns-in-Diagonal
returns-in-Diagonal c = rw c.in-Diagonal.is (rw (orderly_same most_ports _ c.args.self.ready) at c.take_diagonal.ensures)
