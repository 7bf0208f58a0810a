-- `trace_writer::listing::counts_fit` meets its contract.
use Rattle.trace_writer.specs.Writer.{counts_fit}
use Rattle.trace_writer.proofs.listing.counts_fit.Goals as goal

pub returns : goal.returns
unfolding counts_fit
returns c = rw (c.slots_fit.ensures, c.ports_sound.ensures)
