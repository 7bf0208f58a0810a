use Rattle.std.proofs.Common.{sym, ap, ◌∙◌}
use Rattle.std.proofs.lemmas.Result.{err_from_is_err_and}
use Rattle.frames.specs.Part.{most_ports}
use Rattle.ledger.specs.Ledger.{number, next}
use Rattle.ledger.specs.Lent.{ledger_of, words_of}
use Rattle.ledger.proofs.LentLaws.{lent_unfit, lent_declines, lent_counts}
use Rattle.ledger.proofs.lent.feed_lent.Goals as goal

pub returns-in_default : goal.returns-in_default
returns-in_default c = lent_unfit most_ports _ _ _ _ c.in_default.ensures.cases

pub returns-in_err-declined : goal.returns-in_err-declined
returns-in_err-declined c =
    let p = err_from_is_err_and c.from_residual.result c.from_residual.ensures.1 in
    let whole = c.in-Some.ensures.cases in
    rw (p.1, p.2) (lent_declines most_ports _ _ _ _ whole.long _ _ whole.same (c.in_err-declined.ensures ∙ ap (λ w. number most_ports (ledger_of most_ports w) c.args.n) whole.same))

pub returns : goal.returns
returns c =
    let whole = c.in-Some.ensures.cases in
    lent_counts most_ports _ _ _ _ whole.long _ (rw (← whole.same) (sym c.in_ok-declined.ensures))
    (c.count.ensures ∙ ap (λ w. words_of (next most_ports (ledger_of most_ports w) c.args.n c.args.asked c.args.connected)) whole.same)
