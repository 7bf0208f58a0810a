-- `long_check::tables::Entries::made` meets its contract.
use mathlib.Core.Path.{◌≡◌, ◌∙◌}
use native.Mathlib.Omega.{arith}
use borrow.Author.Rules.{rules}
use Rattle.long_check.proofs.Filling.{next-room, one_table, start}
use Rattle.long_check.proofs.tables.Entries.made.Goals as goal

pub loop-k-init : goal.loop-k-init
loop-k-init c = (search rules, λ k h. absurd (omega arith))

pub fill-requires : goal.fill-requires
fill-requires c = let l = c.loop-k in next-room l.k l.of l.invariant.0 c.loop-k-test.true

pub loop-k-preserved : goal.loop-k-preserved
loop-k-preserved c =
    let f = c.fill in
    let l = c.loop-k in
    (f.ensures.0 ∙ l.invariant.0, one_table l.k _ l.of f.new.t l.invariant.1 f.ensures (start l.k c.loop-k-test.true))

pub invariant_of-result : goal.invariant_of-result
invariant_of-result c =
    let all : c.loop-k.k ≡ 10 = omega arith in
    record { hold = rw all at c.loop-k.invariant.1 }
