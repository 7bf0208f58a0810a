-- `salvages::whole::salvage` meets its contract.
use Rattle.std.proofs.lemmas.Result.{err_from_is_err_and}
use Rattle.salvages.proofs.Answers.{unsound, few_fates}
use Rattle.salvages.proofs.whole.salvage.Goals as goal

pub returns-in_err-whole : goal.returns-in_err-whole
returns-in_err-whole c =
    let p = err_from_is_err_and c.from_residual.result c.from_residual.ensures.1 in
    rw (p.1, p.2, c.in_err-whole.ensures.0) (unsound _ _ _ _ c.in_err-whole.ensures.1)

pub returns-then-fates-whole : goal.returns-then-fates-whole
returns-then-fates-whole c = few_fates _ _ _ _ (rw c.in_ok-whole.ensures at c.in_ok-whole.whole.whole) c.if-fates-whole.true

pub returns : goal.returns
returns c = rw c.in_ok-whole.ensures at c.salvage.ensures
