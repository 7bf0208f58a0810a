-- Each public call's promise allows one result. `Learnt` is what the contract tells a caller at the arguments a.
use Rattle.std.proofs.Common.{◌≡◌, sym, ◌∙◌}
use Rattle.std.specs.Prelude.{Result}
use Rattle.refusals.specs.declared.Refusal.{Refusal}
use Rattle.ports.specs.declared.served.Served.{Served}
use Rattle.ports.proofs.Unique.{stepped_unique}
use Rattle.laws.proofs.Unique.{the_result}
use Rattle.ports.specs.declared.state.State.{State}
use Rattle.lcf.proofs.advancing.advance.Reads as advance
use Rattle.lcf.proofs.slot.slot_on_tables.Reads as slot-on-tables
use Rattle.lcf.proofs.slot.finish_due.Reads as finish-due

pub advance_once : (κs a : _) (r s : State) (x y : _) → advance.Learnt κs a r x → advance.Learnt κs a s y → r ≡ s
advance_once κs a r s x y p q = the_result p q

pub slot_on_tables-once : (κs a : _) (r s : Result Served Refusal) (x y : _) → slot-on-tables.Learnt κs a r x → slot-on-tables.Learnt κs a s y → r ≡ s
slot_on_tables-once κs a r s x y p q = stepped_unique _ _ r s (p ∙ sym q)

pub finish_due-once : (κs a : _) (r s : Result Served Refusal) (x y : _) → finish-due.Learnt κs a r x → finish-due.Learnt κs a s y → r ≡ s
finish_due-once κs a r s x y p q = stepped_unique _ _ r s (p ∙ sym q)
