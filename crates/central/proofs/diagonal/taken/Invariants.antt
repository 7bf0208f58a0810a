use Rattle.central.proofs.Taking.{Taken}
use Rattle.central.proofs.diagonal.taken.Given as goal

abbrev pub invariant-loop-k : goal.invariant-loop-k
invariant-loop-k l = Taken l.shelf.state (record { live = l.initial.live; held = l.initial.held }) l.k l.live l.held l.gone
