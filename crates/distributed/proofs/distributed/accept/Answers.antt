use borrow.Author.Rules.{rules}
use Rattle.frames.specs.Part.{most_ports}
use Rattle.choices.proofs.Ports.{is_chosen, is_join}
use Rattle.distributed.specs.Offers.{accept}
use Rattle.distributed.proofs.distributed.accept.Goals as goal

pub returns-then-holds : goal.returns-then-holds
unfolding accept
returns-then-holds c =
    let (is, range) = is_chosen most_ports _ _ _ _ _ _ c.turned-from.ensures c.choose.ensures (search rules) (search rules) (search rules) (search rules) in
    rw (← is, ← c.holds.ensures, c.if-holds.true) (is_join most_ports _ _ _ c.join_pair.ensures (search rules) (search rules))

pub returns-else-holds : goal.returns-else-holds
unfolding accept
returns-else-holds c =
    let (is, _) = is_chosen most_ports _ _ _ _ _ _ c.turned-from.ensures c.choose.ensures (search rules) (search rules) (search rules) (search rules) in
    rw (← is, ← c.holds.ensures, c.if-holds.false)
