-- `salvages::file::WholeFile::salvage` meets its contract.
use native.Mathlib.Omega.{arith}
use Rattle.salvages.proofs.Answers.{short, done}
use Rattle.salvages.proofs.Wholes.{few}
use Rattle.salvages.proofs.Writes.{salvaged_small}
use Rattle.salvages.proofs.file.WholeFile.salvage.Goals as goal

pub returns-then-out-len : goal.returns-then-out-len
returns-then-out-len c = short _ _ _ _ c.args.self.now.whole c.requires (rw c.new_len-len.ensures at c.if-out-len.true)

pub overflow_cast-result : goal.overflow_cast-result
overflow_cast-result c = omega (arith, c.new_len-len.ensures, salvaged_small c.args.self.now.whole)

pub overflow_cast-result-2 : goal.overflow_cast-result-2
overflow_cast-result-2 c = omega (arith, few c.args.self.now.whole)

pub returns : goal.returns
returns c =
    rw c.new_len-len.ensures
    (done _ _ _ _ c.args.self.now.whole c.requires (rw c.new_len-len.ensures at c.if-out-len.false) _ _ c.put_trace.ensures c.put_fates.ensures)
