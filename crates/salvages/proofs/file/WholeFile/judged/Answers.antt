-- `salvages::file::WholeFile::judged` meets its contract.
use Rattle.laws.proofs.Loops.{loop}
use Rattle.salvages.proofs.file.WholeFile.judged.Goals as goal

pub loop-k-init : goal.loop-k-init
loop-k-init c = rw c.none-judged.ensures (search loop)

pub loop-k-preserved : goal.loop-k-preserved
loop-k-preserved c = search loop

pub returns : goal.returns
returns c = search loop
