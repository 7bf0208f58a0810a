-- Each public call's promise allows one result, and one final content of what was lent. `Learnt` is what the contract tells a
-- caller at the arguments a.
use Rattle.std.proofs.Common.{◌≡◌, Bool, Result, Ok, Err, sym, ap}
use Rattle.laws.proofs.Unique.{the_result}
use Rattle.refusals.specs.declared.Refusal.{Refusal}
use Rattle.refusals.proofs.Unique.{number_unique, refused_is_not_done, number_of_unique}
use Rattle.import_steps.specs.declared.taking.Import.{Import}
use Rattle.import_steps.specs.Taking.{Known, numbered, known_after}
use Rattle.import_steps.proofs.taking.start.Reads as start
use Rattle.import_steps.proofs.taking.take_record.Reads as take-record
use Rattle.import_steps.proofs.taking.ends_body.Reads as ends-body
use Rattle.import_steps.proofs.listing.note_body.Reads as note-body
use Rattle.import_steps.proofs.laying.lay_record.Reads as lay-record
use Rattle.import_steps.proofs.laying.close_body.Reads as close-body

-- what is known after an answer tells the answer
abbrev without_number : Known → Import
without_number p = record { mode = p.mode; state = p.state; last = p.last; hosts = p.hosts; first = p.first; slots = p.slots; bodies = p.bodies; resent = p.resent }

pub known_after_unique : (p : Known) (r s : Result Import Refusal) → known_after p r ≡ known_after p s → r ≡ s
unfolding numbered
known_after_unique p (Ok a) (Ok b) same = ap Ok (ap without_number same)
known_after_unique p (Ok a) (Err e) same = absurd (refused_is_not_done e (sym (ap (λ (q : Known). q.number) same)))
known_after_unique p (Err e) (Ok b) same = absurd (refused_is_not_done e (ap (λ (q : Known). q.number) same))
known_after_unique p (Err e) (Err f) same = ap Err (number_unique e f (ap (λ (q : Known). q.number) same))

pub start-once : (κs a : _) (r s : Result Import Refusal) (x y : _) → start.Learnt κs a r x → start.Learnt κs a s y → r ≡ s
start-once κs a r s x y p q = known_after_unique _ r s (the_result p q)

pub take_record_once : (κs a : _) (r s : Result Import Refusal) (x y : _) → take-record.Learnt κs a r x → take-record.Learnt κs a s y → r ≡ s
take_record_once κs a r s x y p q = known_after_unique _ r s (the_result p q)

pub ends_body-once : (κs a : _) (r s : Bool) (x y : _) → ends-body.Learnt κs a r x → ends-body.Learnt κs a s y → r ≡ s
ends_body-once κs a r s x y p q = the_result p q

pub note_body_once : (κs a r s : _) (x y : _) → note-body.Learnt κs a r x → note-body.Learnt κs a s y → (x.1.0.now ≡ y.1.0.now) × (x.1.1.0.now ≡ y.1.1.0.now)
note_body_once κs a r s x y p q = (the_result p.0 q.0, the_result p.1 q.1)

pub lay_record_once : (κs a : _) (r s : Result (Unit {0}) Refusal) (x y : _) → lay-record.Learnt κs a r x → lay-record.Learnt κs a s y → (r ≡ s) × (x.1.1.1.0.now ≡ y.1.1.1.0.now)
lay_record_once κs a r s x y p q = (number_of_unique r s (the_result p.0 q.0), the_result p.1 q.1)

pub close_body_once : (κs a : _) (r s : Result (Unit {0}) Refusal) (x y : _) → close-body.Learnt κs a r x → close-body.Learnt κs a s y → (r ≡ s) × (x.1.0.now ≡ y.1.0.now)
close_body_once κs a r s x y p q = (number_of_unique r s (the_result p.0 q.0), the_result p.1 q.1)
