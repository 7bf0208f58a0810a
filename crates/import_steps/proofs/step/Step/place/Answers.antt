-- `import_steps::step::Step::place` meets its contract.
use Rattle.std.proofs.Common.{◌+◌, ◌*◌, ◌≤◌, length, refl, arith}
use borrow.Rule.Slice.PartMut.{mid_len}
use Rattle.import_steps.specs.Taking.{known}
use Rattle.import_steps.specs.Laying.{placed}
use Rattle.import_steps.proofs.Over.{lent_over}
use Rattle.import_steps.proofs.Placing.{frame_last, long, frame_is, frame_long}
use Rattle.import_steps.proofs.step.Step.place.Goals as goal

pub returns-then-is_resent : goal.returns-then-is_resent
unfolding placed
returns-then-is_resent c = rw (← c.is_resent.ensures, c.if-is_resent.true)

pub slice_bounds-copy_from_slice-end : goal.slice_bounds-copy_from_slice-end
slice_bounds-copy_from_slice-end c = let s = c.args.self in omega (arith, c.last_block.ensures, frame_last (known s.before) _ _ s.taken, c.requires)

pub slice_bounds-copy_from_slice-count-2 : goal.slice_bounds-copy_from_slice-count-2
slice_bounds-copy_from_slice-count-2 c = let s = c.args.self in omega (arith, long (known s.before) _ _ s.taken)

pub slice_bounds-copy_from_slice-start-2 : goal.slice_bounds-copy_from_slice-start-2
slice_bounds-copy_from_slice-start-2 c = let s = c.args.self in omega (arith, long (known s.before) _ _ s.taken)

pub copy_from_slice-requires : goal.copy_from_slice-requires
copy_from_slice-requires c =
    let s = c.args.self in
    let at = c.last_block.result + s.packet.host * 11 in
    let room : at + 11 ≤ length c.open_block.new.body = omega (arith, c.last_block.ensures, frame_last (known s.before) _ _ s.taken, c.requires) in
    omega (arith, mid_len at (at + 11) c.open_block.new.body room, frame_long (known s.before) _ _ s.taken)

pub returns : goal.returns
unfolding placed
returns c =
    let s = c.args.self in
    rw (← c.is_resent.ensures, c.if-is_resent.false, ← c.open_block.ensures, ← frame_is (known s.before) _ _ s.taken, ← c.last_block.ensures)
    (lent_over _ _ _ _ _ (rw (frame_long (known s.before) _ _ s.taken) refl) c.copy_from_slice.ensures.after)
