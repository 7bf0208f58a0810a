-- `trace_parts::layout::most_slots` meets its contract.
use borrow.Author.Rules.{rules}
use Rattle.trace_parts.specs.Layout.{most_slots}
use Rattle.trace_parts.proofs.layout.most_slots.Goals as goal

pub returns : goal.returns
unfolding most_slots
returns c = search rules
