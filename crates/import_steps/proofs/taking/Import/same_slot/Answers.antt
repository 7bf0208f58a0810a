-- `import_steps::taking::Import::same_slot` meets its contract.
use Rattle.std.proofs.Common.{refl}
use Rattle.import_steps.specs.Taking.{same_slot}
use Rattle.import_steps.proofs.taking.Import.same_slot.Goals as goal

pub returns : goal.returns
unfolding same_slot
returns c = refl
