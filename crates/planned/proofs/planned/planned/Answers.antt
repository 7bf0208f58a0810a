use mathlib.Core.Path.{sym, ◌∙◌}
use native.Mathlib.Omega.{arith}
use Rattle.planned.proofs.Unplanned.{unplanned}
use Rattle.planned.proofs.planned.planned.Goals as goal

pub returns-then-any_live : goal.returns-then-any_live
returns-then-any_live c = c.give_all.ensures

pub returns-else-any_live : goal.returns-else-any_live
returns-else-any_live c = unplanned _ _ _ (omega (arith, c.args.shelf.ready.target)) (sym c.any_live.ensures ∙ c.if-any_live.false)
