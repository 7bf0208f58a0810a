use Rattle.std.proofs.Common.{sym, ◌∙◌}
use native.Mathlib.Omega.{arith}
use lib.Dec.{ltb}
use borrow.Author.Tests.{ltb-false, eq-eqb, ne_eqb}
use Rattle.laws.proofs.Tests.{neither}
use Rattle.frames.specs.Part.{most_ports}
use Rattle.shelf.specs.Asked.{block_number}
use Rattle.shelf.proofs.asked.check_ports.Goals as goal

pub returns-then-wrong_ports : goal.returns-then-wrong_ports
unfolding block_number
returns-then-wrong_ports c = rw (← c.wrong_ports.ensures, c.if-wrong_ports.true)

pub overflow_mul-n : goal.overflow_mul-n
overflow_mul-n c = let n = c.args.n in omega (arith, ltb-false most_ports n (neither (ltb n 1) (ltb most_ports n) (sym c.wrong_ports.ensures ∙ c.if-wrong_ports.false)).1)

pub returns-then-block-n : goal.returns-then-block-n
unfolding block_number
returns-then-block-n c = rw (← c.wrong_ports.ensures, c.if-wrong_ports.false, ne_eqb _ _ c.if-block-n.true)

pub returns : goal.returns
unfolding block_number
returns c = rw (← c.wrong_ports.ensures, c.if-wrong_ports.false, eq-eqb _ _ c.if-block-n.false)
