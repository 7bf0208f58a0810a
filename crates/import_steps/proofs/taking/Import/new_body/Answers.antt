-- `import_steps::taking::Import::new_body` meets its contract.
use Rattle.import_steps.specs.Taking.{new_body}
use Rattle.import_steps.proofs.taking.Import.new_body.Goals as goal

pub returns : goal.returns
unfolding new_body
returns c = rw (c.next_slot.ensures, c.same_slot.ensures)
