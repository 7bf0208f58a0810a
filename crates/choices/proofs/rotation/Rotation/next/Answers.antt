use borrow.Author.Rules.{rules}
use Rattle.ports.specs.Tables.{moved_bits}
use Rattle.choices.proofs.Choices.{near, less, after}
use Rattle.choices.proofs.rotation.Rotation.next.Goals as goal

pub contend-requires : goal.contend-requires
contend-requires c = (near _ _ _ _ _ c.requires.1 moved_bits c.requires.0 (search rules), search rules)

pub returns : goal.returns
returns c = (less _ _ _ _ _ c.requires.1 moved_bits c.requires.0 (search rules), after _ _ _ _ _ c.requires.1 moved_bits c.requires.0 (search rules) c.contend.ensures.0 c.contend.ensures.1)
