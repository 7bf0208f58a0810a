-- `words::check::crc_bit` meets its contract.
use borrow.Author.Tests.{lt-ltb, le-ltb}
use Rattle.words.specs.Check.{crc_bit}
use Rattle.words.proofs.check.crc_bit.Goals as goal

pub returns-then-c-lt32768 : goal.returns-then-c-lt32768
unfolding crc_bit
returns-then-c-lt32768 c = rw (lt-ltb _ _ c.if-c-lt32768.true)

pub returns-else-c-lt32768 : goal.returns-else-c-lt32768
unfolding crc_bit
returns-else-c-lt32768 c = rw (le-ltb _ _ c.if-c-lt32768.false)
