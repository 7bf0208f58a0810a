use Rattle.std.proofs.Common.{◌≡◌, cond, get_or}
use Rattle.frames.specs.Part.{most_ports}
use Rattle.laws.specs.Sets.{has, tabled}
use Rattle.ports.specs.Owners.{among}
use Rattle.hearing.proofs.rows_of.Given as goal

abbrev pub invariant-loop-i : goal.invariant-loop-i
invariant-loop-i l = l.table ≡ tabled most_ports (λ k. cond (has l.present k) (among l.owners k (get_or l.rows k 0)) 0) l.i
