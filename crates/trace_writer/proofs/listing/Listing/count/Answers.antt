use native.Mathlib.Omega.{arith}
use Rattle.frames.specs.Part.{most_ports}
use Rattle.trace_writer.proofs.Fitting.{counts_fit_lem}
use Rattle.trace_writer.proofs.listing.Listing.count.Goals as goal

pub overflow_cast-result : goal.overflow_cast-result
overflow_cast-result c = let a = c.args.self in omega (arith, (counts_fit_lem most_ports a.ports a.firsts.now a.slots.now a.fits).count)
