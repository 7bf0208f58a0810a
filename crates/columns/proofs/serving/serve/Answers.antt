use native.Mathlib.Nat.{le_trans}
use native.Mathlib.Omega.{arith}
use lib.Bits.{and_le_l}
use Rattle.columns.proofs.Digits.{and_takes}
use Prim.Native.Nat.{◌<◌}
use Rattle.columns.specs.Serving.{serve}
use Rattle.columns.proofs.serving.serve.Goals as goal

pub holds-joined-requires : goal.holds-joined-requires
holds-joined-requires c = rw (c.winner-w.ensures, c.less-planes.ensures, c.column-asked.ensures, c.pair_at-favoured.ensures.row.0, c.pair_at-favoured.ensures.column.0) (omega arith)

pub overflow_sub-result : goal.overflow_sub-result
overflow_sub-result c = le_trans (and_le_l _ _) (and_le_l _ _)

pub returns : goal.returns
unfolding serve
returns c =
    let small : c.winner-w.result < 16 = rw (c.winner-w.ensures, c.less-planes.ensures, c.column-asked.ensures, c.pair_at-favoured.ensures.row.0, c.pair_at-favoured.ensures.column.0) (omega arith) in
    let left = and_takes 32 c.args.board.free c.column-asked.result c.winner-w.result (omega arith) in
    (rw (left, c.holds-joined.ensures, c.winner-w.ensures, c.less-planes.ensures, c.column-asked.ensures, c.pair_at-favoured.ensures.row.0, c.pair_at-favoured.ensures.column.0), small, omega arith)
