-- `salvages::file::Body::bytes` meets its contract.
use mathlib.Core.Path.{◌∙◌}
use Rattle.traces.specs.Trace.{body_at}
use Rattle.salvages.proofs.file.Body.bytes.Goals as goal

pub returns : goal.returns
unfolding body_at
returns c = c.part_of.ensures ∙ rw c.entry-read.ensures
