-- `trace_parts::layout::most_mode` meets its contract.
use borrow.Author.Rules.{rules}
use Rattle.trace_parts.specs.Layout.{most_mode}
use Rattle.trace_parts.proofs.layout.most_mode.Goals as goal

pub returns : goal.returns
unfolding most_mode
returns c = search rules
