use native.Mathlib.Omega.{arith}
use Rattle.words.proofs.BytesAt.{two_at, four_at}
use Rattle.table_bytes.specs.State.{state_of}
use Rattle.table_bytes.proofs.states.state_of.Goals as goal

pub returns : goal.returns
unfolding state_of
returns c = rw (four_at c.args.bytes.now 3 (omega (arith, c.requires)), two_at c.args.bytes.now 7 (omega (arith, c.requires)), c.from.ensures, c.from-2.ensures, c.from-3.ensures, c.of_four.ensures, c.of_two.ensures)
