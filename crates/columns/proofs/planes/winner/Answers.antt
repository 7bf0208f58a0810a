use borrow.Author.Rules.{rules}
use lib.Pow.{pow_pos}
use lib.Count.{trailing_le}
use native.Mathlib.Omega.{arith}
use Rattle.laws.proofs.Words.{single}
use Rattle.columns.specs.Planes.{least, winner}
use Rattle.columns.proofs.planes.winner.Goals as goal

pub returns-then-m-holds : goal.returns-then-m-holds
unfolding winner
returns-then-m-holds c = rw (← c.holds.ensures, c.if-m-holds.true)

pub overflow_sub-a : goal.overflow_sub-a
overflow_sub-a c = rw (single 32 c.args.a (search rules)) (pow_pos c.args.a)

pub overflow_cast-result : goal.overflow_cast-result
overflow_cast-result c = record { fits = omega (arith, trailing_le 32 c.narrow.result) }

pub returns-else-m-holds : goal.returns-else-m-holds
unfolding winner least
returns-else-m-holds c = rw (← c.holds.ensures, c.if-m-holds.false, c.narrow.ensures, c.lowest-by_number.ensures, single 32 c.args.a (search rules))
