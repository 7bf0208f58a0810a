-- `trace_writer::listing::slots_fit` meets its contract.
use mathlib.Core.Path.{◌≡◌}
use lib.ListN.{get_or}
use Rattle.laws.specs.Steps.{every}
use Rattle.laws.specs.Tests.{between}
use Rattle.trace_parts.specs.Layout.{most_slots}
use Rattle.trace_writer.proofs.listing.slots_fit.Given as goal

abbrev pub invariant-loop-count : goal.invariant-loop-count
invariant-loop-count l = l.sound ≡ every (λ k. between 1 (most_slots l.n) (get_or l.slots k 0)) l.count-index
