-- `imports::laying::close_last` meets its contract.
use Rattle.import_steps.specs.Taking.{known}
use Rattle.import_steps.specs.Laying.{close_output}
use Rattle.frames.specs.Part.{most_ports}
use Rattle.imports.specs.Passes.{shut_in}
use Rattle.imports.proofs.Lent.{from_lent}
use borrow.Author.Tests.{lt-ltb, le-ltb}
use Rattle.imports.proofs.laying.close_last.Goals as goal

pub returns-then-p-gt0 : goal.returns-then-p-gt0
unfolding shut_in
returns-then-p-gt0 c =
    rw (lt-ltb _ _ c.if-p-gt0.true)
    (from_lent c.args.start (close_output most_ports (known c.args.p)) c.args.region.now _ c.close_body.ensures.1)

pub returns-else-p-gt0 : goal.returns-else-p-gt0
unfolding shut_in
returns-else-p-gt0 c = rw (le-ltb _ _ c.if-p-gt0.false)
