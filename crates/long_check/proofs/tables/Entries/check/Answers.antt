-- `long_check::tables::Entries::check` meets its contract.
use mathlib.Core.Path.{sym}
use Prim.Native.Nat.{◌/◌}
use borrow.Author.Rules.{rules}
use lib.ListN.{length}
use Rattle.long_check.proofs.Several.{by_blocks}
use Rattle.long_check.proofs.tables.Entries.check.Goals as goal

pub returns : goal.returns
returns c = let s = c.args.s.now in rw (sym (by_blocks (length s / 16) s 0xFFFF)) (search rules)
