-- `queue_steps::asking::rows_of` meets its contract.
use borrow.Author.Rules.{rules}
use Rattle.laws.proofs.Mapped.{made}
use Rattle.queue_steps.proofs.asking.rows_of.Goals as goal

pub returns : goal.returns
returns c = made _ _ _ _ (λ x y q l k. search rules) _ c.from_fn.ensures.items
