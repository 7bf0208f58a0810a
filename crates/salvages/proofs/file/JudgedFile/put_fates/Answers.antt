-- `salvages::file::JudgedFile::put_fates` meets its contract.
use mathlib.Core.Path.{refl, ap, ◌∙◌}
use native.Mathlib.Omega.{arith}
use borrow.Author.Rules.{rules}
use lib.ListN.{set}
use Rattle.laws.specs.Steps.{steps}
use Rattle.body_fates.specs.Fate.{fate_number}
use Rattle.salvages.proofs.Judgements.{fate_told, told_more}
use Rattle.salvages.proofs.Wholes.{few}
use Rattle.salvages.proofs.Writes.{facts}
use Rattle.salvages.proofs.file.JudgedFile.put_fates.Goals as goal

pub loop-k-init : goal.loop-k-init
unfolding steps
loop-k-init c = (refl, refl)

pub loop-k-preserved : goal.loop-k-preserved
loop-k-preserved c =
    let l = c.loop-k in
    let w = c.args.self.now.file.whole in
    let fate = c.fate_of.ensures ∙ fate_told _ _ _ _ (facts w c.args.self.now.of_file) (few w) l.k c.loop-k-test.true in
    let told = c.from.ensures ∙ ap fate_number fate in
    (ap (set l.fates l.k) told ∙ told_more _ l.k c.args.fates.now l.fates (omega (arith, c.requires, c.loop-k-test.true)) l.invariant.0, search rules)
