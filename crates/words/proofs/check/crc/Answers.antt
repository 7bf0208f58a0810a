-- `words::check::crc` meets its contract.
use borrow.Author.Rules.{rules}
use Rattle.words.proofs.CheckLaws.{crc_is_fold}
use Rattle.words.proofs.check.crc.Goals as goal

pub returns : goal.returns
returns c = rw (crc_is_fold c.args.s.now 0xFFFF) (search rules)
