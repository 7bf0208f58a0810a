use Prim.Native.Nat.{◌≤◌, ◌+◌, ◌*◌}
use native.Mathlib.Omega.{arith}
use borrow.Author.Rules.{rules}
use lib.ListN.{length}
use Rattle.frames.specs.Part.{most_ports}
use Rattle.table_bytes.specs.Table.{table_len}
use Rattle.replays.proofs.Replaying.{none_replayed, next_replayed, all_replayed}
use Rattle.replays.proofs.Body.replay_all.Goals as goal

pub loop-k-init : goal.loop-k-init
loop-k-init c = none_replayed most_ports _ _ _ _ _ _ c.start_state-state.ensures

pub loop-k-preserved : goal.loop-k-preserved
loop-k-preserved c =
    let l = c.loop-k in
    let next = c.replay_next-state in
    let room : l.k * table_len most_ports + table_len most_ports ≤ length c.args.tables.now = omega (arith, c.requires) in
    next_replayed most_ports _ _ _ _ l.invariant _ _ room next.ensures.0 next.ensures.1 (search rules)

pub shape_of-tables : goal.shape_of-tables
shape_of-tables c = c.loop-k.invariant.as_long

pub returns : goal.returns
returns c = all_replayed most_ports _ _ _ _ c.loop-k.invariant (search rules)
