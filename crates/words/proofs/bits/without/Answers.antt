use Rattle.std.proofs.Common.{◌%◌, arith}
use Rattle.laws.proofs.Words.{and_clears}
use Rattle.words.proofs.bits.without.Goals as goal

pub returns : goal.returns
returns c = and_clears 16 c.args.s (c.args.k % 16) (omega arith)
