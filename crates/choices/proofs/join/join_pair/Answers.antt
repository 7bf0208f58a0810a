use Rattle.std.proofs.Common.{◌%◌}
use Rattle.frames.specs.Part.{most_ports}
use Rattle.choices.specs.Join.{join}
use Rattle.choices.proofs.Ports.{one_column}
use Rattle.choices.proofs.join.join_pair.Goals as goal

pub returns : goal.returns
unfolding join
returns c = rw (c.with.ensures, c.clear_columns.ensures, c.with-2.ensures, one_column (c.args.t.0 % most_ports))
