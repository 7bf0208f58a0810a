-- `import_steps::taking::take_record` meets its contract.
use Rattle.std.proofs.Common.{◌∙◌, rules}
use Rattle.import_steps.specs.Taking.{known}
use Rattle.import_steps.proofs.Fitting.{taken_err, taken_ok}
use Rattle.import_steps.proofs.taking.take_record.Goals as goal

pub returns-in_err-of : goal.returns-in_err-of
returns-in_err-of c = let is = taken_err _ (known c.args.p) _ _ c.in_err-of.ensures.0 in search (rules, is)

pub returns : goal.returns
returns c =
    let (is, (before, packet, bytes)) = c.in_ok-of.ensures in
    rw (before, packet) at c.took.ensures ∙ taken_ok _ (known c.args.p) _ is
