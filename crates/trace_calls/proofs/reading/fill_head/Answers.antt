use Rattle.std.proofs.Common.{rules}
use Rattle.lent.proofs.Fills.{told}
use Rattle.trace_parts.specs.Contents.{no_head}
use Rattle.trace_calls.specs.Shown.{head_words}
use Rattle.trace_calls.proofs.reading.fill_head.Goals as goal

pub returns : goal.returns
returns c = told no_head head_words _ _ _ _ c.map.ensures.cases _ _ (search rules) (search rules)
