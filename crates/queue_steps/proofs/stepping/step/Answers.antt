-- `queue_steps::stepping::step` meets its contract.
use mathlib.Core.Path.{sym, ◌∙◌}
use Rattle.frames.specs.Part.{most_ports}
use Rattle.queue_records.specs.Order.{most_cells, cell_len}
use Rattle.queue_steps.specs.Step.{stepped}
use Rattle.queue_steps.proofs.Serves.{fits-room}
use Rattle.queue_steps.proofs.stepping.step.Goals as goal

pub scheduled-requires : goal.scheduled-requires
scheduled-requires c =
    let a = c.args in
    fits-room most_ports most_cells cell_len a.words.now a.state a.len (sym c.fits.ensures ∙ c.if-fits.true)

pub returns-then-fits : goal.returns-then-fits
unfolding stepped
returns-then-fits c = rw (← c.fits.ensures, c.if-fits.true) c.scheduled.ensures

pub returns : goal.returns
unfolding stepped
returns c = rw (← c.fits.ensures, c.if-fits.false)
