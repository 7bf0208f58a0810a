-- `salvage_calls::bellacush_salvage` meets its contract.
use Rattle.std.proofs.Common.{rules}
use Rattle.frames.specs.Part.{most_ports}
use Rattle.lent.proofs.Fills.{told}
use Rattle.salvages.specs.Salvage.{no_salvage}
use Rattle.salvage_calls.specs.Salvaging.{salvaged_words}
use Rattle.salvage_calls.proofs.Salvages.{unfit, filled}
use Rattle.salvage_calls.proofs.bellacush_salvage.Goals as goal

pub returns-then-shown-ne-SALVAGED_WORDS : goal.returns-then-shown-ne-SALVAGED_WORDS
returns-then-shown-ne-SALVAGED_WORDS c = unfit most_ports _ _ _ _ c.if-shown-ne-SALVAGED_WORDS.true

pub returns : goal.returns
returns c =
    let s = c.salvage-made.ensures in
    filled most_ports _ _ _ _ c.if-shown-ne-SALVAGED_WORDS.false _ _ s.1 s.2 _ s.0 _ _ (told no_salvage salvaged_words _ _ _ _ c.map.ensures.cases _ _ (search rules) (search rules))
