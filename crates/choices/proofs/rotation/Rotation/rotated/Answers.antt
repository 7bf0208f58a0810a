use borrow.Author.Rules.{rules}
use Rattle.laws.proofs.Words.{single}
use Rattle.ports.specs.Tables.{moved_bits}
use Rattle.choices.proofs.Choices.{rotated}
use Rattle.choices.proofs.rotation.Rotation.rotated.Goals as goal

pub returns : goal.returns
returns c = rotated c.args.among _ _ c.args.self.starts moved_bits (search rules) (rw (c.from.ensures, single moved_bits c.args.self.n (search rules))) (rw (single moved_bits c.args.self.from (search rules)))
