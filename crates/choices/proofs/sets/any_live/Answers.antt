use Rattle.std.proofs.Common.{rules}
use Rattle.frames.specs.Part.{most_ports}
use Rattle.choices.proofs.Ports.{all_asked}
use Rattle.choices.proofs.sets.any_live.Goals as goal

pub returns : goal.returns
returns c = all_asked c.args.live most_ports _ _ (search rules) c.loop-i.invariant (search rules) (search rules)
