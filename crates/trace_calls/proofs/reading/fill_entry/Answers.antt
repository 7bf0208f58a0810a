use Rattle.std.proofs.Common.{rules}
use Rattle.lent.proofs.Fills.{told}
use Rattle.trace_parts.specs.Contents.{no_description}
use Rattle.trace_calls.specs.Shown.{entry_words}
use Rattle.trace_calls.proofs.reading.fill_entry.Goals as goal

pub returns : goal.returns
returns c = told no_description entry_words _ _ _ _ c.map.ensures.cases _ _ (search rules) (search rules)
