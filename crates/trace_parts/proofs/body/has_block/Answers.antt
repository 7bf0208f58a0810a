-- `trace_parts::body::has_block` meets its contract.
use borrow.Author.Rules.{rules}
use Rattle.trace_parts.specs.Body.{has_block}
use Rattle.trace_parts.proofs.body.has_block.Goals as goal

pub complete-requires : goal.complete-requires
unfolding has_block
complete-requires c = search rules

pub returns : goal.returns
unfolding has_block
returns c = rw c.complete.ensures
