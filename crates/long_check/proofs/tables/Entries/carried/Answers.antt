-- `long_check::tables::Entries::carried` meets its contract.
use mathlib.Core.Path.{sym, ◌∙◌}
use borrow.Author.Rules.{rules}
use Rattle.long_check.proofs.Several.{two_bytes, bytes_of}
use Rattle.long_check.proofs.tables.Entries.carried.Goals as goal

pub returns : goal.returns
returns c =
    rw (c.at-2.ensures, c.at.ensures, c.to_be_bytes.ensures ∙ bytes_of c.args.c (search rules)) (sym (two_bytes 128 c.args.c (search rules)))
