use lib.ListN.{get_or}
use Rattle.laws.specs.Sets.{has}
use Rattle.choices.specs.Scan.{Scanned}
use Rattle.choices.proofs.rotation.Rotation.choose.Given as goal

abbrev pub invariant-loop-scan : goal.invariant-loop-scan
invariant-loop-scan l = Scanned (has l.among) (λ x. get_or l.numbers x 0) l.self.n l.self.from l.scan

abbrev pub decreases-loop-scan : goal.decreases-loop-scan
decreases-loop-scan l = l.scan.left
