use borrow.Author.Tests.{le-leb, lt-leb}
use Rattle.table_bytes.specs.State.{state_in}
use Rattle.table_bytes.proofs.states.state_in.Goals as goal

pub returns-then-bytes-lt-STATE_LEN : goal.returns-then-bytes-lt-STATE_LEN
unfolding state_in
returns-then-bytes-lt-STATE_LEN c = rw (lt-leb _ _ c.if-bytes-lt-STATE_LEN.true)

pub returns : goal.returns
unfolding state_in
returns c = rw (le-leb _ _ c.if-bytes-lt-STATE_LEN.false) c.state_of.ensures
