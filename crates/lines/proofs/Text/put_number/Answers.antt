use Rattle.lines.proofs.Digits.{fewest}
use Rattle.lines.proofs.Text.put_number.Goals as goal

pub returns : goal.returns
returns c = rw (← fewest _ _ c.decimal-n.ensures.len, ← c.decimal-n.ensures.digits) c.put_text.ensures
