-- `captures::header::magic_order` meets its contract.
use Rattle.std.proofs.Common.{eq-eqb, ne_eqb}
use Rattle.captures.specs.Capture.{is_low}
use Rattle.captures.proofs.header.magic_order.Goals as goal

pub returns-then-long_in : goal.returns-then-long_in
unfolding is_low
returns-then-long_in c = rw (← c.long_in.ensures, eq-eqb _ _ c.if-long_in.true)

pub returns-then-long_in-2 : goal.returns-then-long_in-2
unfolding is_low
returns-then-long_in-2 c = rw (← c.long_in.ensures, ne_eqb _ _ c.if-long_in.false, ← c.long_in-2.ensures, eq-eqb _ _ c.if-long_in-2.true)

pub returns : goal.returns
unfolding is_low
returns c = rw (← c.long_in.ensures, ne_eqb _ _ c.if-long_in.false, ← c.long_in-2.ensures, ne_eqb _ _ c.if-long_in-2.false)
