use Rattle.std.proofs.Common.{rules, ◌∙◌}
use Rattle.frames.specs.Part.{most_ports}
use Rattle.ledger.specs.Lent.{ledger_of}
use Rattle.laws.proofs.Mapped.{made}
use Rattle.ledger.proofs.LentLaws.{sets_read}
use Rattle.ledger.proofs.lent.waiting_of.Goals as goal

pub returns : goal.returns
unfolding ledger_of
returns c = made _ _ _ _ (λ x y q l k. search rules) _ c.from_fn.ensures.items ∙ sets_read most_ports c.args.words.now (search rules)
