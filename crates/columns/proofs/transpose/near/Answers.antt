use Rattle.columns.specs.Transpose.{by_one, by_two}
use Rattle.columns.proofs.transpose.near.Goals as goal

pub returns : goal.returns
unfolding by_one by_two
returns c = cc
