use mathlib.Core.Path.{◌∙◌}
use Prim.Native.Nat.{◌≤◌, ◌+◌, ◌*◌}
use native.Mathlib.Omega.{arith}
use borrow.Author.Rules.{rules}
use lib.ListN.{length, get_or}
use Rattle.laws.specs.Steps.{steps}
use Rattle.laws.specs.Bytes.{big_endian}
use Rattle.laws.proofs.Bytes.{length_big}
use Rattle.laws.proofs.Parts.{next-part}
use Rattle.table_bytes.proofs.put.Goals as goal

pub loop-i-init : goal.loop-i-init
unfolding steps
loop-i-init c = search rules

pub loop-i-preserved : goal.loop-i-preserved
loop-i-preserved c =
    let l = c.loop-i in
    let a = c.args in
    let room : l.i * 2 + 2 ≤ length l.out = omega arith in
    (next-part (λ k. big_endian 2 (get_or a.sets k 0)) 2 (λ k. length_big 2 (get_or a.sets k 0)) l.i l.out a.out.now _ l.invariant.0 room c.put_set.ensures, c.out-1.given.1 ∙ l.invariant.1)
