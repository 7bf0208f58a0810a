-- `salvage_lines::put_line` meets its contract.
use Rattle.trace_parts.specs.Contents.{no_description}
use Rattle.trace_parts.proofs.Defaults.{described_default}
use Rattle.trace_parts.proofs.Shown.{or_zeros}
use Rattle.salvage_lines.proofs.put_line.Goals as goal

pub returns : goal.returns
returns c =
    let read = or_zeros no_description _ described_default _ _ c.unwrap_or_default-read.ensures in
    rw (← c.read_entry.ensures, ← read, ← c.fate_of.ensures) c.put_dropped.ensures
