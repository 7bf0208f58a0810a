use Rattle.std.proofs.Common.{◌≡◌, ◌%◌, ◌^◌, get_or}
use Rattle.laws.specs.Sets.{tabled}
use Rattle.frames.specs.Part.{most_ports}
use Rattle.ports.proofs.tables.within.Given as goal

abbrev pub invariant-loop-i : goal.invariant-loop-i
invariant-loop-i l = l.table ≡ tabled most_ports (λ k. get_or l.rows k 0 % 2 ^ l.ports) l.i
