use borrow.Author.Rules.{rules}
use Rattle.laws.proofs.Loops.{none}
use Rattle.choices.proofs.Choices.{ends}
use Rattle.choices.proofs.rotation.Rotation.choose.Goals as goal

pub loop-scan-init : goal.loop-scan-init
loop-scan-init c = record { rest = c.rotated.ensures; best = none _ _; within = search rules; range = c.args.self.starts }

pub next-scan-requires : goal.next-scan-requires
next-scan-requires c = (c.loop-scan-test.true, c.loop-scan.invariant)

pub loop-scan-smaller : goal.loop-scan-smaller
loop-scan-smaller c = c.next-scan.ensures.0

pub loop-scan-preserved : goal.loop-scan-preserved
loop-scan-preserved c = c.next-scan.ensures.1

pub returns : goal.returns
returns c = (ends _ _ _ _ _ c.loop-scan.invariant c.loop-scan-test.false, c.loop-scan.invariant.range)
