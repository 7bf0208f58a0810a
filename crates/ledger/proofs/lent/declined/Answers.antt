use Rattle.std.proofs.Common.{rules, refl, ap, ◌∙◌}
use Rattle.frames.specs.Part.{most_ports}
use Rattle.ledger.specs.Ledger.{refusal, number}
use Rattle.ledger.specs.Lent.{ledger_of}
use Rattle.ledger.proofs.Chains.{some_row}
use Rattle.ledger.proofs.LentLaws.{lent_over}
use Rattle.ledger.proofs.lent.declined.Goals as goal

pub returns : goal.returns
unfolding number ledger_of
returns c =
    let waiting = c.waiting_of.result in
    c.refusal.ensures ∙ ap (refusal most_ports c.args.n _)
    (lent_over most_ports c.args.words.now refl (search rules) c.waiting_of.ensures c.any.ensures.small c.above.ensures
    (c.any.ensures.some ∙ some_row _ waiting most_ports (search rules)))
