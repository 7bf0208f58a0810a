-- `long_check::tables::Entries::sixteen` meets its contract.
use borrow.Author.Rules.{rules}
use Rattle.long_check.proofs.Several.{sixteen_after}
use Rattle.long_check.proofs.tables.Entries.sixteen.Goals as goal

pub returns : goal.returns
returns c = sixteen_after c.args.s.now c.args.c (search rules) (search rules) c.block.ensures c.carried.ensures
