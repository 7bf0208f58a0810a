use Rattle.std.proofs.Common.{le-ltb, lt-ltb}
use Rattle.ports.specs.Due.{due_number}
use Rattle.ports.proofs.due.check_due.Goals as goal

pub returns-then-wrong_ports : goal.returns-then-wrong_ports
unfolding due_number
returns-then-wrong_ports c = rw (← c.wrong_ports.ensures, c.if-wrong_ports.true)

pub returns-then-state : goal.returns-then-state
unfolding due_number
returns-then-state c = rw (← c.wrong_ports.ensures, c.if-wrong_ports.false, c.if-state.true)

pub returns-then-late : goal.returns-then-late
unfolding due_number
returns-then-late c = rw (← c.wrong_ports.ensures, ← c.behind-late.ensures, c.if-wrong_ports.false, c.if-state.false, c.if-late.true)

pub returns-then-late-gt2147483648 : goal.returns-then-late-gt2147483648
unfolding due_number
returns-then-late-gt2147483648 c = rw (← c.wrong_ports.ensures, ← c.behind-late.ensures, c.if-wrong_ports.false, c.if-state.false, c.if-late.false, lt-ltb _ _ c.if-late-gt2147483648.true)

pub returns-then-wrong_limit : goal.returns-then-wrong_limit
unfolding due_number
returns-then-wrong_limit c = rw (← c.wrong_ports.ensures, ← c.behind-late.ensures, ← c.wrong_limit.ensures, c.if-wrong_ports.false, c.if-state.false, c.if-late.false, le-ltb _ _ c.if-late-gt2147483648.false, c.if-wrong_limit.true)

pub returns : goal.returns
unfolding due_number
returns c = rw (← c.wrong_ports.ensures, ← c.behind-late.ensures, ← c.wrong_limit.ensures, c.if-wrong_ports.false, c.if-state.false, c.if-late.false, le-ltb _ _ c.if-late-gt2147483648.false, c.if-wrong_limit.false)
