-- `import_steps::taking::Import::is_open` meets its contract.
use Rattle.import_steps.specs.Laying.{is_open}
use Rattle.import_steps.proofs.taking.Import.is_open.Goals as goal

pub returns : goal.returns
unfolding is_open
returns c = rw (c.slots_sound.ensures, c.ports_sound.ensures)
