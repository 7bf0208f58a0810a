use borrow.Author.Rules.{rules}
use Rattle.lines.proofs.Putting.{byte_more}
use Rattle.lines.proofs.Text.put_text.Goals as goal

pub loop-b-preserved : goal.loop-b-preserved
loop-b-preserved c = byte_more _ _ (search rules) c.loop-b.invariant c.put_byte.ensures
