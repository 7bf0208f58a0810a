-- `import_steps::taking::Import::is_resent` meets its contract.
use Rattle.import_steps.specs.Taking.{is_resent}
use Rattle.import_steps.proofs.taking.Import.is_resent.Goals as goal

pub returns : goal.returns
unfolding is_resent
returns c = rw (c.holds.ensures, c.same_slot.ensures)
