-- Each call's promise allows one result, and one final content of what was lent. `Learnt` is what the contract tells a caller at
-- the arguments a.
use mathlib.Core.Path.{◌≡◌}
use Prim.Native.Nat.{ℕ}
use Rattle.laws.proofs.Unique.{the_result}
use Rattle.collector_calls.proofs.ledger_calls.bellacush_asked.Reads as asked
use Rattle.collector_calls.proofs.ledger_calls.bellacush_feed.Reads as feed
use Rattle.collector_calls.proofs.ledger_calls.bellacush_figures.Reads as figures
use Rattle.collector_calls.proofs.trace_exports.bellacush_trace.Reads as trace
use Rattle.collector_calls.proofs.trace_exports.bellacush_trace_body.Reads as trace-body
use Rattle.collector_calls.proofs.trace_exports.bellacush_contents.Reads as contents
use Rattle.collector_calls.proofs.trace_exports.bellacush_entry.Reads as entry
use Rattle.collector_calls.proofs.trace_exports.bellacush_replay.Reads as replay
use Rattle.collector_calls.proofs.trace_exports.bellacush_seal_body.Reads as seal-body
use Rattle.collector_calls.proofs.trace_exports.bellacush_write_trace.Reads as write-trace

pub asked-once : (κs a : _) (r s : ℕ) (x y : _) → asked.Learnt κs a r x → asked.Learnt κs a s y → (r ≡ s) × (x.1.1.0.now ≡ y.1.1.0.now)
asked-once κs a r s x y p q = (the_result p.0 q.0, the_result p.1 q.1)

pub feed-once : (κs a : _) (r s : ℕ) (x y : _) → feed.Learnt κs a r x → feed.Learnt κs a s y → (r ≡ s) × (x.0.now ≡ y.0.now)
feed-once κs a r s x y p q = (the_result p.0 q.0, the_result p.1 q.1)

pub figures-once : (κs a : _) (r s : ℕ) (x y : _) → figures.Learnt κs a r x → figures.Learnt κs a s y → (r ≡ s) × (x.1.1.1.0.now ≡ y.1.1.1.0.now)
figures-once κs a r s x y p q = (the_result p.0 q.0, the_result p.1 q.1)

pub trace_once : (κs a : _) (r s : ℕ) (x y : _) → trace.Learnt κs a r x → trace.Learnt κs a s y → (r ≡ s) × (x.1.0.now ≡ y.1.0.now)
trace_once κs a r s x y p q = (the_result p.0 q.0, the_result p.1 q.1)

pub trace_body_once : (κs a : _) (r s : ℕ) (x y : _) → trace-body.Learnt κs a r x → trace-body.Learnt κs a s y → (r ≡ s) × (x.1.1.0.now ≡ y.1.1.0.now)
trace_body_once κs a r s x y p q = (the_result p.0 q.0, the_result p.1 q.1)

pub contents_once : (κs a : _) (r s : ℕ) (x y : _) → contents.Learnt κs a r x → contents.Learnt κs a s y → (r ≡ s) × (x.1.1.0.now ≡ y.1.1.0.now)
contents_once κs a r s x y p q = (the_result p.0 q.0, the_result p.1 q.1)

pub entry_once : (κs a : _) (r s : ℕ) (x y : _) → entry.Learnt κs a r x → entry.Learnt κs a s y → (r ≡ s) × (x.1.1.0.now ≡ y.1.1.0.now)
entry_once κs a r s x y p q = (the_result p.0 q.0, the_result p.1 q.1)

pub replay_once : (κs a : _) (r s : ℕ) (x y : _) → replay.Learnt κs a r x → replay.Learnt κs a s y → (r ≡ s) × (x.1.1.1.1.0.now ≡ y.1.1.1.1.0.now)
replay_once κs a r s x y p q = (the_result p.0 q.0, the_result p.1 q.1)

pub seal_body_once : (κs a : _) (r s : ℕ) (x y : _) → seal-body.Learnt κs a r x → seal-body.Learnt κs a s y → (r ≡ s) × (x.1.1.1.1.1.1.0.now ≡ y.1.1.1.1.1.1.0.now)
seal_body_once κs a r s x y p q = (the_result p.0 q.0, the_result p.1 q.1)

pub write_trace_once : (κs a : _) (r s : ℕ) (x y : _) → write-trace.Learnt κs a r x → write-trace.Learnt κs a s y → (r ≡ s) × (x.1.1.1.1.0.now ≡ y.1.1.1.1.0.now)
write_trace_once κs a r s x y p q = (the_result p.0 q.0, the_result p.1 q.1)
