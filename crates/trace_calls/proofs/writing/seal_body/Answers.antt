-- `trace_calls::writing::seal_body` meets its contract.
use native.Mathlib.Omega.{arith}
use Rattle.laws.proofs.Tests.{refuted}
use Rattle.frames.specs.Part.{most_ports}
use Rattle.lent.proofs.Writes.{unfit}
use Rattle.trace_parts.specs.Layout.{most_slots}
use Rattle.trace_writer.proofs.Fitting.{body_fits_lem}
use Rattle.trace_calls.proofs.writing.seal_body.Goals as goal

pub returns-then-slots-gt-MOST_COUNT : goal.returns-then-slots-gt-MOST_COUNT
unfolding most_slots
returns-then-slots-gt-MOST_COUNT c = unfit _ _ _ _ (refuted _ (λ e. omega (arith, (body_fits_lem most_ports _ _ _ _ e).most)))
