-- Each promise allows one result, and one final content of what was lent. `Learnt` is what the contract tells a caller at the
-- arguments a.
use mathlib.Core.Path.{◌≡◌, sym, ◌∙◌}
use Rattle.std.specs.Prelude.{Result}
use Rattle.laws.proofs.Unique.{the_result}
use Rattle.refusals.specs.declared.Refusal.{Refusal}
use Rattle.refusals.proofs.Unique.{number_of_unique}
use Rattle.ports.specs.declared.served.Served.{Served}
use Rattle.ports.specs.declared.state.State.{State}
use Rattle.ports.proofs.Unique.{stepped_unique}
use Rattle.replays.proofs.start_state.Reads as start-state
use Rattle.replays.proofs.replay_slot.Reads as replay-slot
use Rattle.replays.proofs.replay.Reads as replay

pub start_state-once : (κs a : _) (r s : State) (x y : _) → start-state.Learnt κs a r x → start-state.Learnt κs a s y → r ≡ s
start_state-once κs a r s x y p q = the_result p q

pub replay_slot_once : (κs a : _) (r s : Result Served Refusal) (x y : _) → replay-slot.Learnt κs a r x → replay-slot.Learnt κs a s y → r ≡ s
replay_slot_once κs a r s x y p q = stepped_unique _ _ r s (p ∙ sym q)

pub replay_once : (κs a : _) (r s : Result (Unit {0}) Refusal) (x y : _) → replay.Learnt κs a r x → replay.Learnt κs a s y → (r ≡ s) × (x.1.1.1.1.0.now ≡ y.1.1.1.1.0.now)
replay_once κs a r s x y p q = (number_of_unique r s (p.0 ∙ sym q.0), the_result p.1 q.1)
