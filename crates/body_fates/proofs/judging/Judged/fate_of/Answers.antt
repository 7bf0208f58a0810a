-- `body_fates::judging::Judged::fate_of` meets its contract.
use Rattle.body_fates.specs.Judged.{fate_of}
use Rattle.body_fates.proofs.judging.Judged.fate_of.Goals as goal

pub returns-then-k-self : goal.returns-then-k-self
unfolding fate_of
returns-then-k-self c = rw c.if-k-self.true

pub returns : goal.returns
unfolding fate_of
returns c = rw c.if-k-self.false
