-- `long_check::tables::Entries::one` meets its contract.
use mathlib.Core.Path.{sym, ◌∙◌}
use borrow.Author.Rules.{rules}
use Rattle.long_check.proofs.Several.{one_byte, bytes_of}
use Rattle.long_check.proofs.tables.Entries.one.Goals as goal

pub returns : goal.returns
returns c =
    let a = c.args in
    rw (c.at.ensures, c.from.ensures, c.to_be_bytes.ensures ∙ bytes_of a.c (search rules)) (sym (one_byte a.c a.b (search rules) (search rules)))
