-- A number names one refusal, so what C is told of a call says how it ended.
use mathlib.Core.Path.{◌≡◌, refl, sym, ap, ◌∙◌}
use mathlib.Core.Bool.{false, true≢false}
use Rattle.std.specs.Prelude.{ℕ, cond, eqb, Result, Ok, Err}
use Rattle.refusals.specs.Numbers.{number, number_of, answer_of, Answer}
use Rattle.std.specs.Result.{is_ok}
use Rattle.refusals.proofs.Refusal.number.Reads as number_call
use Rattle.refusals.proofs.number_of.Reads as number_of_call
use Rattle.refusals.specs.declared.Refusal.{Refusal}
use Rattle.refusals.specs.declared.Refusal.TheVariants.{BadPorts, BadOffset, SlotStale, SlotEarly, BadLimit, BadBlockLen, OutTooShort, BadLen, BadType, BadCheck, BadGrantField, BadLedger, BadTrace, BadOperator, QueuesFull, BadQueues, BadCapture}

abbrev named : ℕ → Refusal
named k =
    (cond (eqb k 1) BadPorts
    (cond (eqb k 2) BadOffset
    (cond (eqb k 3) SlotStale
    (cond (eqb k 4) SlotEarly
    (cond (eqb k 5) BadLimit
    (cond (eqb k 6) BadBlockLen
    (cond (eqb k 7) OutTooShort
    (cond (eqb k 8) BadLen
    (cond (eqb k 9) BadType
    (cond (eqb k 10) BadCheck
    (cond (eqb k 11) BadGrantField
    (cond (eqb k 13) BadLedger
    (cond (eqb k 14) BadTrace
    (cond (eqb k 15) BadOperator
    (cond (eqb k 16) QueuesFull
    (cond (eqb k 17) BadQueues BadCapture))))))))))))))))

named_back : (a : Refusal) → named (number a) ≡ a
named_back BadPorts = refl
named_back BadOffset = refl
named_back SlotStale = refl
named_back SlotEarly = refl
named_back BadLimit = refl
named_back BadBlockLen = refl
named_back OutTooShort = refl
named_back BadLen = refl
named_back BadType = refl
named_back BadCheck = refl
named_back BadGrantField = refl
named_back BadLedger = refl
named_back BadTrace = refl
named_back BadOperator = refl
named_back QueuesFull = refl
named_back BadQueues = refl
named_back BadCapture = refl

pub number_unique : (a b : Refusal) → number a ≡ number b → a ≡ b
number_unique a b same = sym (named_back a) ∙ (ap named same ∙ named_back b)

pub not_done : (e : Refusal) → eqb (number e) 0 ≡ false
not_done BadPorts = refl
not_done BadOffset = refl
not_done SlotStale = refl
not_done SlotEarly = refl
not_done BadLimit = refl
not_done BadBlockLen = refl
not_done OutTooShort = refl
not_done BadLen = refl
not_done BadType = refl
not_done BadCheck = refl
not_done BadGrantField = refl
not_done BadLedger = refl
not_done BadTrace = refl
not_done BadOperator = refl
not_done QueuesFull = refl
not_done BadQueues = refl
not_done BadCapture = refl

-- a refusal's number is none that means done
pub refused_is_not_done : (e : Refusal) → (number e ≡ 0 → ⊥)
refused_is_not_done e same = true≢false (sym (ap (λ k. eqb k 0) same) ∙ not_done e)

-- so two results of one number are the same, and two answers of the same number and values are too
pub number_of_unique : (r s : Result (Unit {0}) Refusal) → number_of r ≡ number_of s → r ≡ s
number_of_unique (Ok a) (Ok b) same = refl
number_of_unique (Ok a) (Err e) same = absurd (refused_is_not_done e (sym same))
number_of_unique (Err e) (Ok b) same = absurd (refused_is_not_done e same)
number_of_unique (Err e) (Err f) same = ap Err (number_unique e f same)

-- the number that an answer tells
pub number_told : {A : Type 0} (zeros : A) (r : Result A Refusal) → (answer_of zeros r).number ≡ number_of r
number_told zeros (Ok a) = refl
number_told zeros (Err e) = refl

pub answer_unique : {A : Type 0} (zeros : A) (r s : Result A Refusal) → answer_of zeros r ≡ answer_of zeros s → r ≡ s
answer_unique zeros (Ok a) (Ok b) same = ap Ok (ap (λ x. x.fields) same)
answer_unique zeros (Ok a) (Err e) same = absurd (refused_is_not_done e (sym (ap (λ x. x.number) same)))
answer_unique zeros (Err e) (Ok b) same = absurd (refused_is_not_done e (ap (λ x. x.number) same))
answer_unique zeros (Err e) (Err f) same = ap Err (number_unique e f (ap (λ x. x.number) same))

-- and a call is done where its number is 0
pub is_done : {A : Type 0} (r : Result A Refusal) → is_ok r ≡ eqb (number_of r) 0
is_done (Ok a) = refl
is_done (Err e) = sym (not_done e)

-- the calls' own promises allow one result
pub number_once : (κs a : _) (r s : ℕ) (x y : _) → number_call.Learnt κs a r x → number_call.Learnt κs a s y → r ≡ s
number_once κs a r s x y p q = p ∙ sym q

pub number_of_once : (T κs g d m l a : _) (r s : ℕ) (x y : _) → number_of_call.Learnt T κs g d m l a r x → number_of_call.Learnt T κs g d m l a s y → r ≡ s
number_of_once T κs g d m l a r s x y p q = p ∙ sym q
