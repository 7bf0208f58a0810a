-- `imports::importing::trace_len` meets its contract.
use Rattle.trace_parts.specs.Layout.{block_len}
use Rattle.imports.proofs.importing.trace_len.Goals as goal

pub returns : goal.returns
unfolding block_len
returns c = rw c.contents_len.ensures.0
