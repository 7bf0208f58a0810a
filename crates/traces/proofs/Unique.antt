-- Each public call's promise allows one result, and one final content of what was lent. `Learnt` is what the contract tells a
-- caller at the arguments a. Of a returned part it pins down the bytes and the place.
use mathlib.Core.Path.{◌≡◌, sym, ◌∙◌}
use Rattle.std.specs.Prelude.{Result}
use Rattle.refusals.specs.declared.Refusal.{Refusal}
use Rattle.refusals.proofs.Unique.{answer_unique}
use Rattle.trace_parts.specs.declared.contents.Described.{Described}
use Rattle.trace_parts.specs.declared.contents.Head.{Head}
use Rattle.trace_parts.proofs.Unique.{part_once}
use Rattle.traces.proofs.trace.trace_head.Reads as trace-head
use Rattle.traces.proofs.trace.trace_entry.Reads as trace-entry
use Rattle.traces.proofs.trace.trace_body.Reads as trace-body

pub trace_head-once : (κs a : _) (r s : Result Head Refusal) (x y : _) → trace-head.Learnt κs a r x → trace-head.Learnt κs a s y → r ≡ s
trace_head-once κs a r s x y p q = answer_unique _ r s (p ∙ sym q)

pub trace_entry-once : (κs a : _) (r s : Result Described Refusal) (x y : _) → trace-entry.Learnt κs a r x → trace-entry.Learnt κs a s y → r ≡ s
trace_entry-once κs a r s x y p q = answer_unique _ r s (p ∙ sym q)

pub trace_body_once : (κs a r s x y : _) → trace-body.Learnt κs a r x → trace-body.Learnt κs a s y → r ≡ s
trace_body_once κs a r s x y p q = part_once _ _ _ r s p q
