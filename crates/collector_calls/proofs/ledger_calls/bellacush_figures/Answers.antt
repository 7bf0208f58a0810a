use Rattle.std.proofs.Common.{rules}
use Rattle.lent.proofs.Fills.{told}
use Rattle.ledger.specs.Ledger.{no_figures}
use Rattle.collector_calls.specs.Ledger.{figure_words}
use Rattle.collector_calls.proofs.ledger_calls.bellacush_figures.Goals as goal

pub returns : goal.returns
returns c = rw (← c.figures_lent-told.ensures) (told no_figures figure_words _ _ _ _ c.map.ensures.cases _ _ (search rules) (search rules))
