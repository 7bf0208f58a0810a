-- `import_steps::taking::start` meets its contract.
use Rattle.std.proofs.Common.{rules}
use Rattle.import_steps.specs.Taking.{numbered, started}
use Rattle.import_steps.proofs.taking.start.Goals as goal

pub returns-in_err-check_start : goal.returns-in_err-check_start
unfolding numbered started
returns-in_err-check_start c = search rules

pub returns : goal.returns
unfolding started
returns c = rw (← (rw c.fields.ensures at c.in_ok-check_start.ensures))
