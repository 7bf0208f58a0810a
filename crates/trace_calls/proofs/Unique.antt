-- Each public call's promise allows one result, and one final content of what was lent. `Learnt` is what the contract tells a
-- caller at the arguments a.
use mathlib.Core.Path.{◌≡◌}
use Prim.Native.Nat.{ℕ}
use Rattle.laws.proofs.Unique.{the_result}
use Rattle.trace_calls.proofs.reading.show_trace.Reads as show-trace
use Rattle.trace_calls.proofs.reading.show_body.Reads as show-body
use Rattle.trace_calls.proofs.reading.show_contents.Reads as show-contents
use Rattle.trace_calls.proofs.reading.show_entry.Reads as show-entry
use Rattle.trace_calls.proofs.replaying.replay_body.Reads as replay-body
use Rattle.trace_calls.proofs.writing.seal_body.Reads as seal-body
use Rattle.trace_calls.proofs.writing.write_trace.Reads as write-trace

pub show_trace_once : (κs a : _) (r s : ℕ) (x y : _) → show-trace.Learnt κs a r x → show-trace.Learnt κs a s y → (r ≡ s) × (x.1.0.now ≡ y.1.0.now)
show_trace_once κs a r s x y p q = (the_result p.0 q.0, the_result p.1 q.1)

pub show_body_once : (κs a : _) (r s : ℕ) (x y : _) → show-body.Learnt κs a r x → show-body.Learnt κs a s y → (r ≡ s) × (x.1.1.0.now ≡ y.1.1.0.now)
show_body_once κs a r s x y p q = (the_result p.0 q.0, the_result p.1 q.1)

pub show_contents_once : (κs a : _) (r s : ℕ) (x y : _) → show-contents.Learnt κs a r x → show-contents.Learnt κs a s y → (r ≡ s) × (x.1.1.0.now ≡ y.1.1.0.now)
show_contents_once κs a r s x y p q = (the_result p.0 q.0, the_result p.1 q.1)

pub show_entry_once : (κs a : _) (r s : ℕ) (x y : _) → show-entry.Learnt κs a r x → show-entry.Learnt κs a s y → (r ≡ s) × (x.1.1.0.now ≡ y.1.1.0.now)
show_entry_once κs a r s x y p q = (the_result p.0 q.0, the_result p.1 q.1)

pub replay_body_once : (κs a : _) (r s : ℕ) (x y : _) → replay-body.Learnt κs a r x → replay-body.Learnt κs a s y → (r ≡ s) × (x.1.1.1.1.0.now ≡ y.1.1.1.1.0.now)
replay_body_once κs a r s x y p q = (the_result p.0 q.0, the_result p.1 q.1)

pub seal_body_once : (κs a : _) (r s : ℕ) (x y : _) → seal-body.Learnt κs a r x → seal-body.Learnt κs a s y → (r ≡ s) × (x.1.1.1.1.1.1.0.now ≡ y.1.1.1.1.1.1.0.now)
seal_body_once κs a r s x y p q = (the_result p.0 q.0, the_result p.1 q.1)

pub write_trace_once : (κs a : _) (r s : ℕ) (x y : _) → write-trace.Learnt κs a r x → write-trace.Learnt κs a s y → (r ≡ s) × (x.1.1.1.1.0.now ≡ y.1.1.1.1.0.now)
write_trace_once κs a r s x y p q = (the_result p.0 q.0, the_result p.1 q.1)
