use Rattle.laws.specs.Bytes.{big_endian}
use Rattle.table_bytes.specs.State.{state_bytes}
use Rattle.table_bytes.proofs.states.state_bytes.Goals as goal

pub returns : goal.returns
unfolding state_bytes big_endian
returns c = rw (c.four_bytes-due.ensures, c.two_bytes-owners.ensures)
