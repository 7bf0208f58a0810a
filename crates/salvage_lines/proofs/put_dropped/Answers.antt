-- `salvage_lines::put_dropped` meets its contract.
use Rattle.body_fates.proofs.Sound.{kept_seen}
use Rattle.lines.proofs.Putting.{nothing_put, both_put}
use Rattle.salvage_lines.specs.Dropped.{dropped_line}
use Rattle.salvage_lines.proofs.put_dropped.Goals as goal

pub returns-then-eq : goal.returns-then-eq
unfolding dropped_line
returns-then-eq c = rw (← kept_seen c.args.fate, ← c.if-eq.ensures) (nothing_put _)

pub returns : goal.returns
unfolding dropped_line
returns c =
    rw (← kept_seen c.args.fate, ← c.if-eq.ensures, ← c.word.ensures, ← c.from.ensures)
    (both_put (both_put (both_put c.put_number.ensures c.put_byte.ensures) c.put_text.ensures) c.put_byte-2.ensures)
