use Rattle.std.proofs.Common.{◌≡◌}
use Rattle.ports.specs.Owners.{owners_of}
use Rattle.ports.proofs.operators.owners_of.Given as goal

abbrev pub invariant-loop-p : goal.invariant-loop-p
invariant-loop-p l = l.owners ≡ owners_of l.given l.p
