-- `import_steps::step::Step::of` meets its contract.
use Rattle.std.proofs.Common.{rules}
use Rattle.import_steps.specs.Taking.{step_number}
use Rattle.import_steps.proofs.step.Step.of.Goals as goal

pub returns-in_err-check_start : goal.returns-in_err-check_start
unfolding step_number
returns-in_err-check_start c = search rules

pub invariant_of-result : goal.invariant_of-result
unfolding step_number
invariant_of-result c = record { taken = rw (← (rw c.fields.ensures at c.in_ok-check_start.ensures), ← c.record_len.ensures.0, ← c.fits.ensures, c.if-bytes-record_len.true) }

pub returns : goal.returns
unfolding step_number
returns c = (rw (← (rw c.fields.ensures at c.in_ok-check_start.ensures), ← c.record_len.ensures.0, ← c.read_packet-packet.ensures, ← c.fits.ensures, c.if-bytes-record_len.false), tt)
