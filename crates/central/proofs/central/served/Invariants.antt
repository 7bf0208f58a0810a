use Rattle.std.proofs.Common.{◌≡◌}
use Rattle.central.specs.Central.{central}
use Rattle.central.proofs.central.served.Given as goal

abbrev pub invariant-loop-k : goal.invariant-loop-k
invariant-loop-k l = l.now ≡ central l.shelf.state l.initial.now l.k
