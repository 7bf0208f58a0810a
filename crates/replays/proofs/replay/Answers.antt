use mathlib.Core.Path.{sym, ◌∙◌}
use borrow.Author.Rules.{rules}
use Rattle.lent.proofs.Writes.{unfit, short, wrote}
use Rattle.replays.proofs.replay.Goals as goal

pub returns-then-not-body_sound : goal.returns-then-not-body_sound
returns-then-not-body_sound c = unfit _ _ _ _ (sym c.body_sound.ensures ∙ c.if-not-body_sound.true)

pub returns-then-tables-slots : goal.returns-then-tables-slots
returns-then-tables-slots c = short _ _ _ _ (sym c.body_sound.ensures ∙ c.if-not-body_sound.false) (search rules)

pub returns : goal.returns
returns c = wrote _ _ _ _ (sym c.body_sound.ensures ∙ c.if-not-body_sound.false) (search rules) _ c.replay_all.ensures
