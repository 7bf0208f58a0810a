-- Each public call's promise allows one result. `Learnt` is what the contract tells a caller at the arguments a.
use Rattle.std.proofs.Common.{◌≡◌, ℕ, Bool, List, sym, ap, ◌∙◌}
use Rattle.std.specs.Prelude.{Result, Ok, Err}
use Rattle.laws.proofs.Unique.{the_result}
use Rattle.refusals.specs.declared.Refusal.{Refusal}
use Rattle.refusals.proofs.Unique.{number_unique, refused_is_not_done, number_of_unique, answer_unique}
use Rattle.ports.specs.Answer.{Answer, Stepped}
use Rattle.ports.specs.Due.{declined}
use Rattle.ports.specs.Served.{slot_answer, stepped_of}
use Rattle.ports.specs.declared.served.Matched.{Matched}
use Rattle.ports.specs.declared.served.Served.{Served}
use Rattle.ports.specs.declared.state.Mode.{Mode}
use Rattle.ports.specs.declared.state.State.{State}
use Rattle.ports.proofs.state.State.fresh.Reads as fresh
use Rattle.ports.proofs.state.State.empty_table.Reads as empty-table
use Rattle.ports.proofs.state.ModeFromU32.from.Reads as Mode-of
use Rattle.ports.proofs.tables.within.Reads as within
use Rattle.ports.proofs.many.wrong_ports.Reads as wrong-ports
use Rattle.ports.proofs.due.check_due.Reads as check-due
use Rattle.ports.proofs.orderly.Orderly.of.Reads as orderly
use Rattle.ports.proofs.tables.at_most.Reads as at_most

-- what is told of a slot tells how it ended
abbrev matched_of : Answer → Matched
matched_of a = record { rounds = a.rounds; sets = a.sets }

pub slot_answer_unique : (m : ℕ) (r s : Result Matched Refusal) → slot_answer m r ≡ slot_answer m s → r ≡ s
slot_answer_unique m (Ok a) (Ok b) same = ap (λ x. Ok (matched_of x)) same
slot_answer_unique m (Ok a) (Err e) same = absurd (refused_is_not_done e (sym (ap (λ x. x.number) same)))
slot_answer_unique m (Err e) (Ok b) same = absurd (refused_is_not_done e (ap (λ x. x.number) same))
slot_answer_unique m (Err e) (Err f) same = ap Err (number_unique e f (ap (λ x. x.number) same))

pub stepped_unique : (m : ℕ) (st : State) (r s : Result Served Refusal) → stepped_of m st r ≡ stepped_of m st s → r ≡ s
unfolding declined
stepped_unique m st (Ok a) (Ok b) same = ap (λ (x : Stepped). Ok (record { state = x.state; matched = matched_of x.answer })) same
stepped_unique m st (Ok a) (Err e) same = absurd (refused_is_not_done e (sym (ap (λ (x : Stepped). x.answer.number) same)))
stepped_unique m st (Err e) (Ok b) same = absurd (refused_is_not_done e (ap (λ (x : Stepped). x.answer.number) same))
stepped_unique m st (Err e) (Err f) same = ap Err (number_unique e f (ap (λ (x : Stepped). x.answer.number) same))

pub fresh-once : (κs a : _) (r s : Result State Refusal) (x y : _) → fresh.Learnt κs a r x → fresh.Learnt κs a s y → r ≡ s
fresh-once κs a r s x y p q = answer_unique _ r s (p ∙ sym q)

pub empty_table_once : (κs a : _) (r s : List ℕ) (x y : _) → empty-table.Learnt κs a r x → empty-table.Learnt κs a s y → r ≡ s
empty_table_once κs a r s x y p q = the_result p q

pub mode_of-once : (κs a : _) (r s : Mode) (x y : _) → Mode-of.Learnt κs a r x → Mode-of.Learnt κs a s y → r ≡ s
mode_of-once κs a r s x y p q = the_result p q

pub at_most_once : (κs a : _) (r s : ℕ) (x y : _) → at_most.Learnt κs a r x → at_most.Learnt κs a s y → r ≡ s
at_most_once κs a r s x y p q = the_result p q

pub within-once : (κs a : _) (r s : List ℕ) (x y : _) → within.Learnt κs a r x → within.Learnt κs a s y → r ≡ s
within-once κs a r s x y p q = the_result p q

pub check_due_once : (κs a : _) (r s : Result (Unit {0}) Refusal) (x y : _) → check-due.Learnt κs a r x → check-due.Learnt κs a s y → r ≡ s
check_due_once κs a r s x y p q = number_of_unique r s (p ∙ sym q)

pub orderly-once : (κs a r s x y : _) → orderly.Learnt κs a r x → orderly.Learnt κs a s y → r.state ≡ s.state
orderly-once κs a r s x y p q = the_result p q

pub wrong_ports_once : (κs a : _) (r s : Bool) (x y : _) → wrong-ports.Learnt κs a r x → wrong-ports.Learnt κs a s y → r ≡ s
wrong_ports_once κs a r s x y p q = the_result p q
