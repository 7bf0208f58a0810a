use Rattle.std.proofs.lemmas.Result.{err_from_is_err_and}
use Rattle.ledger.specs.Ledger.{hidden, shown}
use Rattle.ledger.proofs.book.figures_of.Goals as goal

pub returns-in_err-pair : goal.returns-in_err-pair
unfolding shown hidden
returns-in_err-pair c =
    let p = err_from_is_err_and c.from_residual.result c.from_residual.ensures.1 in
    rw (p.1, p.2, c.in_err-pair.ensures.0, c.in_err-pair.ensures.1)

pub returns : goal.returns
unfolding shown
returns c = rw (c.in_ok-pair.ensures.0, c.pair_figures.ensures, c.in_ok-pair.ensures.1, c.in_ok-pair.ensures.2)
