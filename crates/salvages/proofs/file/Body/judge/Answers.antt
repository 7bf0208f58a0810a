-- `salvages::file::Body::judge` meets its contract.
use mathlib.Core.Path.{◌∙◌}
use Rattle.salvages.specs.Whole.{judge_at}
use Rattle.salvages.proofs.file.Body.judge.Goals as goal

pub returns : goal.returns
unfolding judge_at
returns c = c.judge.ensures ∙ rw (c.bytes.ensures, c.entry.ensures, c.args.self.file.whole.ports)
