-- `trace_writer::listing::Listing::bodies_sound` meets its contract: after k turns the first k bodies are tested, and `at` is where body k starts.
use mathlib.Core.Path.{◌∙◌}
use native.Mathlib.Omega.{arith}
use lib.ListN.{get_or}
use borrow.Author.Rules.{rules}
use Rattle.laws.proofs.Every.{every_none, every_again}
use Rattle.frames.specs.Part.{most_ports}
use Rattle.trace_writer.specs.Writer.{joined_sound}
use Rattle.laws.proofs.Tests.{in_range}
use Rattle.trace_writer.proofs.Fitting.{counts_fit_lem}
use Rattle.trace_writer.proofs.Starts.{start_zero, start-next, size_is}
use Rattle.trace_writer.proofs.listing.Listing.bodies_sound.Goals as goal

pub loop-count-init : goal.loop-count-init
loop-count-init c = (rw start_zero, search rules, every_none _)

pub overflow_add-at : goal.overflow_add-at
overflow_add-at c = let a = c.args.self in omega (arith, (counts_fit_lem most_ports a.ports a.firsts.now a.slots.now a.fits).count)

pub loop-count-preserved : goal.loop-count-preserved
unfolding joined_sound
loop-count-preserved c =
    let l = c.loop-count in
    let k = l.count-index in
    let a = c.args.self in
    let f = counts_fit_lem most_ports a.ports a.firsts.now a.slots.now a.fits in (
      rw (start-next a.ports a.slots.now k, l.invariant.0, size_is most_ports a.ports (get_or a.slots.now k 0) (in_range f.some f.ports) c.body_size-at.ensures.0),
      omega arith,
      every_again (joined_sound most_ports a.ports a.slots.now c.args.bodies.now) k l.invariant.2 (c.sound_from-sound.ensures ∙ rw l.invariant.0),
    )
