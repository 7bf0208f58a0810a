-- `salvages::file::Body::entry` meets its contract: the entry is there.
use Rattle.trace_parts.specs.Contents.{described, no_description}
use Rattle.trace_parts.proofs.Shown.{taken}
use Rattle.salvages.proofs.Wholes.{has}
use Rattle.salvages.proofs.file.Body.entry.Goals as goal

pub returns : goal.returns
returns c =
    let body = c.args.self in
    taken no_description (described body.file.bytes.now body.k) _ (has body.file.whole body.k body.listed) _ c.read_entry.ensures _ _ c.unwrap_or_default.ensures
