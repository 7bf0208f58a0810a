use borrow.Author.Rules.{rules}
use lib.Pow.{pow_pos}
use Rattle.laws.proofs.Words.{single}
use Rattle.columns.proofs.serving.all.Goals as goal

pub overflow_sub-result : goal.overflow_sub-result
overflow_sub-result c = rw (single 32 c.args.shelf.state.ports (search rules)) (pow_pos c.args.shelf.state.ports)

pub returns : goal.returns
returns c = rw (single 32 c.args.shelf.state.ports (search rules))
