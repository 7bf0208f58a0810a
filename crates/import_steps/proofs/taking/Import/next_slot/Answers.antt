-- `import_steps::taking::Import::next_slot` meets its contract.
use Rattle.import_steps.specs.Taking.{next_slot}
use Rattle.import_steps.proofs.Rooms.{room}
use Rattle.std.proofs.Common.{rules}
use Rattle.import_steps.proofs.taking.Import.next_slot.Goals as goal

pub returns : goal.returns
unfolding next_slot
returns c = rw (c.slots_sound.ensures, c.wrapping_add_u16-more.ensures.value, room c.args.self.slots _ (search rules), c.wrapping_add_u32-next.ensures.value)
