-- `trace_parts::layout::block_len` meets its contract.
use borrow.Author.Rules.{rules}
use Rattle.trace_parts.specs.Layout.{block_len}
use Rattle.trace_parts.proofs.layout.block_len.Goals as goal

pub returns : goal.returns
unfolding block_len
returns c = search rules
