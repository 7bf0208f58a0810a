-- Each public call's promise allows one result, and one final content of what was lent. `Learnt` is what the contract tells a
-- caller at the arguments a.
use mathlib.Core.Path.{◌≡◌, refl, sym, ◌∙◌}
use mathlib.Core.Bool.{Bool}
use Prim.Native.Nat.{ℕ}
use Rattle.laws.proofs.Unique.{one_result, the_result}
use Rattle.refusals.proofs.Unique.{number_of_unique}
use Rattle.ports.specs.declared.state.Initiator.{Initiator}
use Rattle.ports.specs.declared.state.Target.{Target}
use Rattle.queue_records.specs.declared.entry.Entry.{Entry}
use Rattle.queue_records.proofs.entry.EntryFromU32.from.Reads as from
use Rattle.queue_records.proofs.entry.U32FromEntry.from.Reads as into
use Rattle.queue_records.proofs.records.Records.word.Reads as word
use Rattle.queue_records.proofs.records.Records.ports.Reads as ports
use Rattle.queue_records.proofs.records.Records.cells.Reads as cells
use Rattle.queue_records.proofs.records.Records.held.Reads as held
use Rattle.queue_records.proofs.records.Records.in_order.Reads as in_order
use Rattle.queue_records.proofs.records.Records.usable.Reads as usable
use Rattle.queue_records.proofs.making.new_queues.Reads as new-queues

pub from_once : (κs a : _) (r s : Entry) (x y : _) → from.Learnt κs a r x → from.Learnt κs a s y → (r.cell ≡ s.cell) × (r.initiator ≡ s.initiator) × (r.target ≡ s.target)
from_once κs a r s x y (c, i, t, _, _) (d, j, u, _, _) = (
  c ∙ sym d,
  one_result (λ (k : Initiator). k.0) (λ k. record { 0 = k }) (λ k. refl) i j,
  one_result (λ (k : Target). k.0) (λ k. record { 0 = k }) (λ k. refl) t u,
)

pub into_once : (κs a : _) (r s : ℕ) (x y : _) → into.Learnt κs a r x → into.Learnt κs a s y → r ≡ s
into_once κs a r s x y p q = the_result p q

pub word-once : (κs a : _) (r s : ℕ) (x y : _) → word.Learnt κs a r x → word.Learnt κs a s y → r ≡ s
word-once κs a r s x y p q = the_result p.0 q.0

pub ports-once : (κs a : _) (r s : ℕ) (x y : _) → ports.Learnt κs a r x → ports.Learnt κs a s y → r ≡ s
ports-once κs a r s x y p q = the_result p.0 q.0

pub cells-once : (κs a : _) (r s : ℕ) (x y : _) → cells.Learnt κs a r x → cells.Learnt κs a s y → r ≡ s
cells-once κs a r s x y p q = the_result p.0 q.0

pub held-once : (κs a : _) (r s : ℕ) (x y : _) → held.Learnt κs a r x → held.Learnt κs a s y → r ≡ s
held-once κs a r s x y p q = the_result p.0 q.0

pub in_order-once : (κs a : _) (r s : Bool) (x y : _) → in_order.Learnt κs a r x → in_order.Learnt κs a s y → r ≡ s
in_order-once κs a r s x y p q = the_result p q

pub usable-once : (κs a : _) (r s : Bool) (x y : _) → usable.Learnt κs a r x → usable.Learnt κs a s y → r ≡ s
usable-once κs a r s x y p q = the_result p q

pub new_queues_once : (κs a : _) (r s : _) (x y : _) → new-queues.Learnt κs a r x → new-queues.Learnt κs a s y → (r ≡ s) × (x.0.now ≡ y.0.now)
new_queues_once κs a r s x y p q = (number_of_unique r s (the_result p.0 q.0), the_result p.1 q.1)
