-- Each promise allows one final content of what was lent, and one length. `Learnt` is what the contract tells a caller at the arguments a.
use mathlib.Core.Path.{◌≡◌}
use Rattle.laws.proofs.Unique.{the_result}
use Rattle.lines.specs.Put.{Puts}
use Rattle.lines.specs.declared.Text.{Text}
use Rattle.lines.proofs.Text.written.Reads as written
use Rattle.lines.proofs.Text.put_byte.Reads as put_byte
use Rattle.lines.proofs.Text.put_text.Reads as put-text
use Rattle.lines.proofs.Text.put_number.Reads as put-number
use Rattle.lines.proofs.Text.put_initiators.Reads as put-initiators
use Rattle.lines.proofs.Text.put_line.Reads as put-line

pub same_text : {t u v : Text} {s : _} → Puts t s u → Puts t s v → (u.len ≡ v.len) × (u.bytes.now ≡ v.bytes.now)
same_text p q = (the_result p.put.ends q.put.ends, the_result p.put.bytes q.put.bytes)

pub put_line_once : (κs a r s : _) (x y : _) → put-line.Learnt κs a r x → put-line.Learnt κs a s y → (x.0.now.len ≡ y.0.now.len) × (x.0.now.bytes.now ≡ y.0.now.bytes.now)
put_line_once κs a r s x y p q = same_text p q

pub put_initiators_once : (κs a r s : _) (x y : _) → put-initiators.Learnt κs a r x → put-initiators.Learnt κs a s y → (x.0.now.len ≡ y.0.now.len) × (x.0.now.bytes.now ≡ y.0.now.bytes.now)
put_initiators_once κs a r s x y p q = same_text p q

pub put_byte_once : (κs a r s : _) (x y : _) → put_byte.Learnt κs a r x → put_byte.Learnt κs a s y → (x.0.now.len ≡ y.0.now.len) × (x.0.now.bytes.now ≡ y.0.now.bytes.now)
put_byte_once κs a r s x y p q = same_text p q

pub put_text_once : (κs a r s : _) (x y : _) → put-text.Learnt κs a r x → put-text.Learnt κs a s y → (x.0.now.len ≡ y.0.now.len) × (x.0.now.bytes.now ≡ y.0.now.bytes.now)
put_text_once κs a r s x y p q = same_text p q

pub put_number_once : (κs a r s : _) (x y : _) → put-number.Learnt κs a r x → put-number.Learnt κs a s y → (x.0.now.len ≡ y.0.now.len) × (x.0.now.bytes.now ≡ y.0.now.bytes.now)
put_number_once κs a r s x y p q = same_text p q

pub written_once : (κs a r s x y : _) → written.Learnt κs a r x → written.Learnt κs a s y → r.now ≡ s.now
written_once κs a r s x y p q = the_result p q
