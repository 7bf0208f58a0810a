-- The numbers of documents 01 and 02 returned when a call declines, 0 meaning done; and what an answer tells by them.
use Rattle.std.specs.Prelude.{ℕ, Result, Ok, Err}
use Rattle.refusals.specs.declared.Refusal.{Refusal}
use Rattle.refusals.specs.declared.Refusal.TheVariants.{BadPorts, BadOffset, SlotStale, SlotEarly, BadLimit, BadBlockLen, OutTooShort, BadLen, BadType, BadCheck, BadGrantField, BadLedger, BadTrace, BadOperator, QueuesFull, BadQueues, BadCapture}

abbrev pub number : Refusal → ℕ
number BadPorts = 1
number BadOffset = 2
number SlotStale = 3
number SlotEarly = 4
number BadLimit = 5
number BadBlockLen = 6
number OutTooShort = 7
number BadLen = 8
number BadType = 9
number BadCheck = 10
number BadGrantField = 11
number BadLedger = 13
number BadTrace = 14
number BadOperator = 15
number QueuesFull = 16
number BadQueues = 17
number BadCapture = 18

-- 0, or the number of the refusal
abbrev pub number_of : {A : Type 0} → Result A Refusal → ℕ
number_of (Ok done) = 0
number_of (Err why) = number why

-- what a call answers that has values to tell: the number, and the values
pub record Answer (A : Type 0) : Type 0 where
  pub number : ℕ
  pub fields : A

-- the number and the values of each case, these where it declines
abbrev pub answer_of : {A : Type 0} → A → Result A Refusal → Answer A
answer_of zeros (Ok fields) = record { number = 0; fields = fields }
answer_of zeros (Err why) = record { number = number why; fields = zeros }
