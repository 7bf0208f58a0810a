-- `traces::trace::sound_at` meets its contract: the entry of a body is there.
use Rattle.trace_parts.specs.Contents.{described, no_description}
use Rattle.trace_parts.proofs.Shown.{taken}
use Rattle.traces.proofs.TraceLaws.{entry_there}
use Rattle.traces.specs.Trace.{sound_at, body_at}
use Rattle.traces.proofs.trace.sound_at.Goals as goal

pub returns : goal.returns
unfolding sound_at body_at
returns c =
    let a = c.args in
    let there = entry_there _ a.s.now a.k c.requires.0 c.requires.2 in
    let is = taken no_description (described a.s.now a.k) _ there _ c.read_entry.ensures _ _ c.unwrap_or_default.ensures in
    rw (c.sound_from.ensures, is, c.requires.1)
