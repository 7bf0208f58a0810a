-- `queues::parting::part` meets its contract.
use Rattle.std.proofs.Common.{◌≡◌, ◌%◌}
use mathlib.Core.Path.{refl}
use native.Mathlib.Omega.{arith}
use borrow.Author.Rules.{rules}
use lib.ListN.{length-set}
use Rattle.frames.specs.Part.{most_ports}
use Rattle.queues.proofs.Partings.{none_parted, leave_few, next_leaves, next_stays, all_parted}
use Rattle.queues.proofs.parting.part.Goals as goal

pub loop-k-init : goal.loop-k-init
loop-k-init c = (search rules, refl, none_parted most_ports _ _ _)

pub bounds-leavers-k : goal.bounds-leavers-k
bounds-leavers-k c =
    let l = c.loop-k in
    leave_few most_ports c.args.sets c.args.entries.now c.requires l.invariant.2 (search rules) _ _ c.holds.result c.from-entry.ensures.1 c.from-entry.ensures.2 c.holds.ensures c.if-holds.true

pub loop-k-preserved-then-holds : goal.loop-k-preserved-then-holds
loop-k-preserved-then-holds c =
    let l = c.loop-k in
    let t = c.from-entry.result.target.0 in
    let same : t % 16 ≡ t = omega (arith, c.from-entry.ensures.4) in (
      omega arith,
      l.invariant.1,
      next_leaves most_ports c.args.sets c.args.entries.now c.requires l.invariant.2 (search rules)
          _ _ c.holds.result c.from-entry.ensures.1 c.from-entry.ensures.2 c.holds.ensures c.if-holds.true c.without.result (rw same at c.without.ensures) (search rules),
    )

pub loop-k-preserved : goal.loop-k-preserved
loop-k-preserved c =
    let l = c.loop-k in (
      omega arith,
      simp length-set l.invariant.1,
      next_stays most_ports c.args.sets c.args.entries.now c.requires l.invariant.2 (search rules)
          _ _ c.holds.result c.from-entry.ensures.1 c.from-entry.ensures.2 c.holds.ensures c.if-holds.false,
    )

pub returns : goal.returns
returns c =
    let l = c.loop-k in
    all_parted most_ports c.args.sets c.args.entries.now c.requires l.invariant.2 (search rules)
