-- How a slot ended, on shelves of at most m ports, as documents 01 and 02 say it: a slot that is declined leaves the state as it was, and
-- answers its number, 0 rounds and m empty sets.
use Rattle.std.specs.Prelude.{ℕ, replicate, Result, Ok, Err}
use Rattle.refusals.specs.declared.Refusal.{Refusal}
use Rattle.refusals.specs.Numbers.{number}
use Rattle.ports.specs.Answer.{Answer, Stepped}
use Rattle.ports.specs.Due.{declined}
use Rattle.ports.specs.declared.served.Matched.{Matched}
use Rattle.ports.specs.declared.served.Served.{Served}
use Rattle.ports.specs.declared.state.State.{State}

abbrev pub matched_answer : Matched → Answer
matched_answer r = record { number = 0; rounds = r.rounds; sets = r.sets }

abbrev pub slot_answer : ℕ → Result Matched Refusal → Answer
slot_answer m (Ok r) = matched_answer r
slot_answer m (Err why) = record { number = number why; rounds = 0; sets = replicate m 0 }

abbrev pub stepped_of : ℕ → State → Result Served Refusal → Stepped
stepped_of m st (Ok s) = record { state = s.state; answer = matched_answer s.matched }
stepped_of m st (Err why) = declined m st (number why)
