-- `import_steps::step::Step::heard` meets its contract.
use Rattle.laws.proofs.Words.{or_puts}
use Rattle.import_steps.specs.Taking.{heard}
use Rattle.import_steps.proofs.Fitting.{host_small}
use Rattle.import_steps.proofs.step.Step.heard.Goals as goal

pub returns-then-holds : goal.returns-then-holds
unfolding heard
returns-then-holds c = rw (← c.holds.ensures, c.if-holds.true, c.wrapping_add_u32.ensures.value)

pub overflow_shl-result : goal.overflow_shl-result
overflow_shl-result c = host_small _ _ _ c.args.self.taken

pub returns : goal.returns
unfolding heard
returns c = let s = c.args.self in rw (← c.holds.ensures, c.if-holds.false, or_puts 16 s.before.hosts s.packet.host (host_small _ _ _ s.taken))
