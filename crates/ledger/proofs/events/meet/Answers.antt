use Rattle.std.proofs.Common.{rules}
use Rattle.ledger.specs.Events.{meet}
use Rattle.laws.proofs.Mapped.{made}
use Rattle.ledger.proofs.events.meet.Goals as goal

pub returns : goal.returns
unfolding meet
returns c = made _ _ _ _ (λ x y q l k. search rules) _ c.from_fn.ensures.items
