-- `import_steps::taking::check_start` meets its contract.
use Rattle.import_steps.specs.Taking.{start_number}
use Rattle.import_steps.proofs.Rooms.{formed_mode}
use Rattle.import_steps.proofs.taking.check_start.Goals as goal

pub returns-then-wrong_ports : goal.returns-then-wrong_ports
unfolding start_number
returns-then-wrong_ports c = rw (← c.wrong_ports.ensures, c.if-wrong_ports.true)

pub returns-then-n-f : goal.returns-then-n-f
unfolding start_number
returns-then-n-f c = rw (← c.wrong_ports.ensures, c.if-wrong_ports.false, c.if-n-f.true)

pub returns-then-formed : goal.returns-then-formed
unfolding start_number
returns-then-formed c = rw (← c.wrong_ports.ensures, c.if-wrong_ports.false, c.if-n-f.false, ← formed_mode c.args.n c.args.f c.if-n-f.false, ← c.formed.ensures, c.if-formed.true)

pub returns : goal.returns
unfolding start_number
returns c = rw (← c.wrong_ports.ensures, c.if-wrong_ports.false, c.if-n-f.false, ← formed_mode c.args.n c.args.f c.if-n-f.false, ← c.formed.ensures, c.if-formed.false)
