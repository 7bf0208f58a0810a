-- `long_check::tables::Entries::block` meets its contract.
use borrow.Author.Rules.{rules}
use lib.Seq.{take_all}
use Rattle.long_check.proofs.Several.{in_turn}
use Rattle.long_check.proofs.tables.Entries.block.Goals as goal

pub returns : goal.returns
returns c =
    let s = c.args.s.now in
    rw (take_all 16 s (search rules)) at (in_turn 8 8 0 0 s c.eight-first.ensures c.eight.ensures)
