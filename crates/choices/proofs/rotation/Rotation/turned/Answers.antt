use Rattle.choices.proofs.Choices.{turns}
use Rattle.choices.proofs.rotation.Rotation.turned.Goals as goal

pub returns : goal.returns
returns c = turns _ _ _ _ c.requires.1 c.wrapped.ensures.0 c.wrapped-2.ensures.0
