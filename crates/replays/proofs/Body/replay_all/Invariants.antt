use Rattle.frames.specs.Part.{most_ports}
use Rattle.replays.proofs.Replaying.{Replayed}
use Rattle.replays.proofs.Body.replay_all.Given as goal

abbrev pub invariant-loop-k : goal.invariant-loop-k
invariant-loop-k l = Replayed most_ports l.self.n l.first l.self.slots l.self.bytes.now l.initial.tables l.k l.tables l.state
