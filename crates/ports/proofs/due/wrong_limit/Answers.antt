use Rattle.std.proofs.Common.{sym, ap}
use Rattle.frames.specs.Part.{most_ports}
use Rattle.ports.specs.Due.{wrong_limit}
use Rattle.ports.proofs.due.wrong_limit.Goals as goal

pub returns-in-Central : goal.returns-in-Central
unfolding wrong_limit
returns-in-Central c = sym (ap (wrong_limit most_ports) c.in-Central.is)

pub returns-in-Distributed : goal.returns-in-Distributed
unfolding wrong_limit
returns-in-Distributed c = sym (ap (wrong_limit most_ports) c.in-Distributed.is)

pub returns-in-Diagonal : goal.returns-in-Diagonal
unfolding wrong_limit
returns-in-Diagonal c = sym (ap (wrong_limit most_ports) c.in-Diagonal.is)
