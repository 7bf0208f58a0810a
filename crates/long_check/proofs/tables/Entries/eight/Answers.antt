-- `long_check::tables::Entries::eight` meets its contract.
use borrow.Author.Rules.{rules}
use Rattle.long_check.proofs.Several.{eight_after}
use Rattle.long_check.proofs.tables.Entries.eight.Goals as goal

pub returns : goal.returns
returns c = eight_after c.args.s.now c.args.i c.args.c (search rules) (search rules) c.four.ensures c.four-2.ensures
