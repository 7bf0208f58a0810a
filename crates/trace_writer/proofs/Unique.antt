-- Each public call's promise allows one result, and one final content of what was lent. `Learnt` is what the contract tells a
-- caller at the arguments a.
use mathlib.Core.Path.{◌≡◌, sym, ◌∙◌}
use Rattle.std.specs.Prelude.{Result}
use Rattle.refusals.specs.declared.Refusal.{Refusal}
use Rattle.refusals.proofs.Unique.{number_of_unique}
use Rattle.laws.proofs.Unique.{the_result}
use Rattle.trace_writer.proofs.sealing.field_bytes.Reads as field-bytes
use Rattle.trace_writer.proofs.sealing.seal_body.Reads as seal-body
use Rattle.trace_writer.proofs.listing.write_contents.Reads as write-contents
use Rattle.trace_writer.proofs.writing.write_trace.Reads as write-trace

pub field_bytes_once : (κs a r s x y : _) → field-bytes.Learnt κs a r x → field-bytes.Learnt κs a s y → r ≡ s
field_bytes_once κs a r s x y p q = the_result p q

pub seal_body_once : (κs a : _) (r s : Result (Unit {0}) Refusal) (x y : _) → seal-body.Learnt κs a r x → seal-body.Learnt κs a s y
    → (r ≡ s) × (x.1.1.1.1.0.now ≡ y.1.1.1.1.0.now)
seal_body_once κs a r s x y p q = (number_of_unique r s (p.0 ∙ sym q.0), the_result p.1 q.1)

pub write_contents_once : (κs a : _) (r s : Result (Unit {0}) Refusal) (x y : _) → write-contents.Learnt κs a r x → write-contents.Learnt κs a s y
    → (r ≡ s) × (x.1.1.1.0.now ≡ y.1.1.1.0.now)
write_contents_once κs a r s x y p q = (number_of_unique r s (p.0 ∙ sym q.0), the_result p.1 q.1)

pub write_trace_once : (κs a : _) (r s : Result (Unit {0}) Refusal) (x y : _) → write-trace.Learnt κs a r x → write-trace.Learnt κs a s y
    → (r ≡ s) × (x.1.1.1.1.0.now ≡ y.1.1.1.1.0.now)
write_trace_once κs a r s x y p q = (number_of_unique r s (p.0 ∙ sym q.0), the_result p.1 q.1)
