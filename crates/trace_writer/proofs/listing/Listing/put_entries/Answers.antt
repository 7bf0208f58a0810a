-- `trace_writer::listing::Listing::put_entries` meets its contract: after k turns the first k entries are written, and `offset` is that of body k.
use mathlib.Core.Path.{◌≡◌, refl, ◌∙◌}
use Prim.Native.Nat.{◌+◌, ◌*◌, ◌≤◌, ◌<◌}
use native.Mathlib.Nat.{le_refl}
use native.Mathlib.Omega.{arith}
use lib.ListN.{length, get_or}
use borrow.Rule.Slice.PartMut.{mid_len}
use Rattle.laws.specs.Steps.{steps}
use Rattle.laws.proofs.Parts.{next-part}
use Rattle.laws.proofs.Tests.{in_range}
use Rattle.frames.specs.Part.{most_ports}
use Rattle.trace_writer.specs.Writer.{entry_bytes, entry_for}
use Rattle.trace_writer.proofs.Fitting.{counts_fit_lem, length_entry}
use Rattle.trace_writer.proofs.Starts.{start_zero, start-next, body_small, size_is}
use Rattle.trace_writer.proofs.listing.Listing.put_entries.Goals as goal

pub loop-k-init : goal.loop-k-init
unfolding steps
loop-k-init c =
    let zero = start_zero c.args.self.ports c.args.self.slots.now in
    (omega (arith, zero, c.len-offset.ensures.0), omega (arith, zero), refl, refl)

pub bounds-self-k-in-loop-k : goal.bounds-self-k-in-loop-k
bounds-self-k-in-loop-k c = let a = c.args.self in omega (arith, (counts_fit_lem most_ports a.ports a.firsts.now a.slots.now a.fits).same)

pub overflow_cast-entry : goal.overflow_cast-entry
overflow_cast-entry c =
    let l = c.loop-k in
    let a = c.args.self in
    omega (arith, l.invariant.0, l.invariant.1, c.len-offset.ensures, (counts_fit_lem most_ports a.ports a.firsts.now a.slots.now a.fits).count)

pub put_entry-requires : goal.put_entry-requires
put_entry-requires c = let l = c.loop-k in omega (arith, mid_len (l.k * 10) (length l.out) l.out (le_refl (length l.out)))

pub loop-k-preserved : goal.loop-k-preserved
unfolding entry_for
loop-k-preserved c =
    let l = c.loop-k in
    let a = c.args.self in
    let slots = a.slots.now in
    let f = counts_fit_lem most_ports a.ports a.firsts.now slots a.fits in
    let inside : l.k < length slots = omega arith in
    let next = start-next a.ports slots l.k in
    let size = size_is most_ports a.ports (get_or slots l.k 0) (in_range f.some f.ports) c.body_size-offset.ensures.0 in
    let small = body_small a.ports (get_or slots l.k 0) f.ports (f.most l.k inside) in
    let room : l.k * 10 + 10 ≤ length l.out = omega arith in (
      rw next (omega arith),
      rw next (omega arith),
      next-part (λ j. entry_bytes (entry_for a.ports a.firsts.now slots j)) 10 (length_entry a.ports a.firsts.now slots) l.k l.out c.args.out.now _ l.invariant.2 room (c.put_entry.ensures ∙ rw l.invariant.0),
      omega arith,
    )

pub returns : goal.returns
returns c =
    let l = c.loop-k in
    let all : l.k ≡ length c.args.self.slots.now = omega arith in
    rw all at l.invariant.2
