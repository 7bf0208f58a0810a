use Rattle.std.proofs.Common.{rules, ◌≡◌, ◌%◌, mod-eq_of_lt}
use Rattle.frames.specs.Part.{most_ports}
use Rattle.central.proofs.Taking.{none_taken, joins, passes}
use Rattle.central.proofs.diagonal.taken.Goals as goal
use Rattle.central.proofs.diagonal.taken.Goals.{then-holds, else-holds}

pub loop-k-init : goal.loop-k-init
loop-k-init c = none_taken _ _

pub loop-k-preserved : goal.loop-k-preserved
loop-k-preserved c =
    let l = c.loop-k in
    let shelf = c.args.shelf in
    let pair = c.pair_at-pair.ensures in
    let t : c.pair_at-pair.result.target.0 % most_ports ≡ c.pair_at-pair.result.target.0 = mod-eq_of_lt (search rules) in
    elim c.if-holds.branch [
      | then-holds w ↦ rw (w.live-is, w.held-is, w.gone-is) (joins shelf.state shelf.ready _ _ _ _ _ l.invariant c.loop-k-test.true pair.row.0 pair.column.0 c.holds.ensures w.if-holds.true (rw t at w.with.ensures) (rw t at w.with-gone.ensures))
      | else-holds w ↦ rw (w.live-is, w.held-is, w.gone-is) (passes shelf.state shelf.ready _ _ _ _ _ l.invariant c.loop-k-test.true pair.row.0 pair.column.0 c.holds.ensures w.if-holds.false)
    ]
