-- `queue_steps::stepping::fits` meets its contract.
use Rattle.queue_steps.specs.Step.{fits}
use Rattle.queue_steps.proofs.stepping.fits.Goals as goal

pub returns-then-usable : goal.returns-then-usable
unfolding fits
returns-then-usable c = rw (← c.usable.ensures, c.if-usable.true, c.ports.ensures.0)

pub returns : goal.returns
unfolding fits
returns c = rw (← c.usable.ensures, c.if-usable.false)
