use mathlib.Core.Path.{ap}
use Rattle.std.proofs.lemmas.Result.{err_from_is_err_and}
use Rattle.ports.specs.Answer.{Stepped}
use Rattle.ports.specs.Due.{declined}
use Rattle.card.proofs.slot.Goals as goal

pub returns-in_err-served : goal.returns-in_err-served
unfolding declined
returns-in_err-served c =
    let p = err_from_is_err_and c.from_residual.result c.from_residual.ensures.1 in
    let (is, kept) = c.in_err-served.ensures in
    rw (p.1, p.2) (record { answered = ap (λ (r : Stepped). r.answer) is; moved = ap (λ (r : Stepped). r.state) is; granted = kept })
