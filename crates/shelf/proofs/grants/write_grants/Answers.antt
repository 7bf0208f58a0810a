use native.Mathlib.Omega.{arith}
use borrow.Author.Rules.{rules}
use Rattle.shelf.proofs.Granting.{none_granted, next_grant, all_granted}
use Rattle.shelf.proofs.grants.write_grants.Goals as goal

pub loop-i-init : goal.loop-i-init
loop-i-init c = none_granted _ _ _ _ _

pub slice_bounds-write_held-count : goal.slice_bounds-write_held-count
slice_bounds-write_held-count c = omega (arith, c.loop-i.invariant.as_long)

pub slice_bounds-write_held-start : goal.slice_bounds-write_held-start
slice_bounds-write_held-start c = omega (arith, c.loop-i.invariant.as_long)

pub slice_bounds-write_held-end : goal.slice_bounds-write_held-end
slice_bounds-write_held-end c = omega (arith, c.loop-i.invariant.as_long)

pub loop-i-preserved : goal.loop-i-preserved
loop-i-preserved c =
    let made = c.grant_for in
    next_grant _ _ _ _ c.loop-i.invariant made.result _ (omega arith) made.ensures.0 made.ensures.1 c.write_held.ensures.1 (search rules)

pub shape_of-out : goal.shape_of-out
shape_of-out c = c.loop-i.invariant.as_long

pub returns : goal.returns
returns c = all_granted _ _ _ _ c.loop-i.invariant (search rules)
