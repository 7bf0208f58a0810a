use Rattle.std.proofs.Common.{sym, ap, ◌∙◌}
use Rattle.std.proofs.lemmas.Result.{err_from_is_err_and}
use Rattle.frames.specs.Part.{most_ports}
use Rattle.ledger.specs.Ledger.{refusal, number}
use Rattle.ledger.proofs.Feeds.{feed_declines, feed_counts}
use Rattle.ledger.proofs.book.feed.Goals as goal

pub returns-in_err-refusal : goal.returns-in_err-refusal
unfolding number
returns-in_err-refusal c =
    let p = err_from_is_err_and c.from_residual.result c.from_residual.ensures.1 in
    rw (p.1, p.2) (feed_declines most_ports _ _ _ _ _ (c.in_err-refusal.ensures ∙ ap (refusal most_ports c.args.n _) c.over.ensures))

pub next-requires : goal.next-requires
unfolding number
next-requires c = rw (← c.over.ensures) (sym c.in_ok-refusal.ensures)

pub returns : goal.returns
unfolding number
returns c = rw c.next.ensures (feed_counts most_ports _ _ _ _ (rw (← c.over.ensures) (sym c.in_ok-refusal.ensures)))
