-- `trace_parts::contents::Start::entry_sound` meets its contract.
use Rattle.trace_parts.specs.Contents.{entry_sound}
use Rattle.trace_parts.proofs.contents.Start.entry_sound.Goals as goal

pub returns : goal.returns
unfolding entry_sound
returns c = rw (c.due.ensures, c.slots_sound.ensures, c.ports.ensures.0, c.entry-entry.ensures)
