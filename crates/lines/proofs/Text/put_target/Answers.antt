use mathlib.Core.Path.{sym, ◌∙◌}
use Rattle.lines.specs.Line.{target}
use Rattle.lines.proofs.Putting.{both_put, nothing_put}
use Rattle.lines.proofs.Text.put_target.Goals as goal

pub returns-then-holds : goal.returns-then-holds
unfolding target
returns-then-holds c = rw (sym c.holds.ensures ∙ c.if-holds.true) (both_put c.put_separator.ensures c.put_number.ensures)

pub returns-else-holds : goal.returns-else-holds
unfolding target
returns-else-holds c = rw (sym c.holds.ensures ∙ c.if-holds.false) (nothing_put _)
