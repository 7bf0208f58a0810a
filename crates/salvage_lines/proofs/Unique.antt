-- The promise allows one final content of what was lent, and one length. `Learnt` is what the contract tells a caller at the arguments a.
use mathlib.Core.Path.{◌≡◌}
use Rattle.lines.proofs.Unique.{same_text}
use Rattle.salvage_lines.proofs.put_lines.Reads as put-lines

pub put_lines_once : (κs a r s : _) (x y : _) → put-lines.Learnt κs a r x → put-lines.Learnt κs a s y → (x.0.now.len ≡ y.0.now.len) × (x.0.now.bytes.now ≡ y.0.now.bytes.now)
put_lines_once κs a r s x y p q = same_text p q
