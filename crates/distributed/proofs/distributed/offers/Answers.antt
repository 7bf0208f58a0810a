use Rattle.std.proofs.Common.{rules, get_or}
use Rattle.frames.specs.Part.{most_ports}
use Rattle.laws.proofs.Loops.{again}
use Rattle.choices.proofs.Ports.{gathers}
use Rattle.distributed.specs.Offers.{offer}
use Rattle.distributed.proofs.Rounds.{all_offered}
use Rattle.distributed.proofs.distributed.offers.Goals as goal

pub loop-t-preserved : goal.loop-t-preserved
unfolding offer
loop-t-preserved c = again _ _ _ c.loop-t.invariant (rw (← c.grant-i.ensures.0, ← gathers most_ports (get_or c.args.live.now c.grant-i.result.0 0) c.loop-t.t (get_or c.loop-t.offered c.grant-i.result.0 0) c.loop-t.t (search rules) c.gather.ensures))

pub returns : goal.returns
returns c = all_offered _ _ (search rules) most_ports _ _ _ _ (search rules) c.requires c.sizes-counts.ensures c.empty_table-offered.ensures c.loop-t.invariant (search rules) (search rules)
