use Rattle.std.proofs.Common.{◌≡◌}
use Rattle.ledger.specs.Counts.{above}
use Rattle.ledger.proofs.counts.above.Given as goal

abbrev pub invariant-loop-count : goal.invariant-loop-count
invariant-loop-count l = l.found ≡ above l.counts l.x l.count-index
