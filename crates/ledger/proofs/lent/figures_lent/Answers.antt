use Rattle.std.proofs.Common.{eq-eqb, ne_eqb}
use Rattle.std.proofs.lemmas.Result.{err_from_is_err_and}
use Rattle.ledger.specs.Ledger.{hidden, shown}
use Rattle.ledger.specs.Lent.{lent_shown}
use Rattle.ledger.proofs.lent.figures_lent.Goals as goal

pub returns-in_default : goal.returns-in_default
unfolding lent_shown hidden
returns-in_default c = rw (ne_eqb _ _ c.in_default.ensures.cases)

pub returns-in_err-pair : goal.returns-in_err-pair
unfolding lent_shown shown hidden
returns-in_err-pair c =
    let p = err_from_is_err_and c.from_residual.result c.from_residual.ensures.1 in
    rw (p.1, p.2, eq-eqb _ _ c.in-Some.ensures.cases.long, c.in_err-pair.ensures.0, c.in_err-pair.ensures.1)

pub returns : goal.returns
unfolding lent_shown shown
returns c =
    rw (eq-eqb _ _ c.in-Some.ensures.cases.long, c.in_ok-pair.ensures.0, c.pair_figures.ensures, c.in_ok-pair.ensures.1, c.in_ok-pair.ensures.2, c.in-Some.ensures.cases.same)
