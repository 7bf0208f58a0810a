-- A feed is counted, and then there is room for it, or it is declined, and then the ledger stays as it was.
use mathlib.Core.Path.{◌≡◌, refl}
use mathlib.Core.Bool.{Bool, true, false, ◌||◌, cond}
use mathlib.Core.List.{List}
use Rattle.std.specs.Prelude.{Ok, Err}
use Prim.Native.Nat.{ℕ, suc, ◌≤◌, ◌<◌}
use native.Mathlib.Omega.{arith}
use lib.Dec.{eqb, ltb, leb}
use borrow.Author.Tests.{ltb-false, leb-false, eqb-true, eqb-false, ne_eqb}
use Rattle.laws.proofs.Tests.{neither, arms}
use Rattle.refusals.specs.Numbers.{number_of, Answer, answer_of}
use Rattle.refusals.specs.declared.Refusal.{Refusal}
use Rattle.refusals.proofs.Unique.{refused_is_not_done}
use Rattle.ledger.specs.Counts.{most_slots, Room}
use Rattle.ledger.specs.Ledger.{over, refusal, number, next, feed}
use Rattle.ledger.specs.declared.book.Ledger.{Ledger}
use Rattle.ledger.proofs.OverLaws.{none_over}

pub record Countable (m : ℕ) (l : Ledger) (n : ℕ) : Type 0 where
  pub ports : n ≤ m
  pub slots : l.slots < most_slots
  pub asked : Room m l.asked
  pub connected : Room m l.connected
  pub fresh : Room m l.fresh
  pub withdrawn : Room m l.withdrawn

not_declined : (b : Bool) (x y : ℕ) → ◌≡◌ {A = ℕ} (cond b (suc x) y) 0 → (b ≡ false) × (y ≡ 0)
not_declined true x y e = absurd (omega arith)
not_declined false x y e = (refl, e)

pub countable : (m : ℕ) (l : Ledger) (n : ℕ) → number m l n ≡ 0 → Countable m l n
unfolding number refusal
countable m l n e =
    let (few, rest) = not_declined (ltb n 1 || ltb m n) 0 (cond (leb most_slots l.slots || over m l) 13 0) e in
    let (left, none) = neither (leb most_slots l.slots) (over m l) (not_declined _ 12 0 rest).0 in
    let less : l.slots < most_slots = leb-false _ _ left in
    let counts = none_over m l none in
    record {
      ports = ltb-false _ _ (neither (ltb n 1) (ltb m n) few).1;
      slots = less;
      asked = λ k h. omega (arith, counts.asked k h);
      connected = λ k h. omega (arith, counts.connected k h);
      fresh = λ k h. omega (arith, counts.fresh k h);
      withdrawn = λ k h. omega (arith, counts.withdrawn k h);
    }

pub feed_cases : (m : ℕ) (l : Ledger) (n : ℕ) (asked connected : List ℕ) (P : Answer Ledger → Type 0)
    → (number m l n ≡ 0 → P (record { number = 0; fields = next m l n asked connected }))
    → ((number m l n ≡ 0 → ⊥) → P (record { number = number m l n; fields = l }))
    → P (feed m l n asked connected)
unfolding feed
feed_cases m l n asked connected P counts declines =
    arms P (eqb (number m l n) 0) _ _ (λ e. counts (eqb-true _ _ e)) (λ e. declines (eqb-false _ _ e))

-- so what answers by a result
pub feed_declines : (m : ℕ) (l : Ledger) (n : ℕ) (asked connected : List ℕ) (e : Refusal) → number_of {A = Unit {0}} (Err e) ≡ number m l n → answer_of l (Err e) ≡ feed m l n asked connected
unfolding feed
feed_declines m l n asked connected e is = rw (← is, ne_eqb _ 0 (refused_is_not_done e))

pub feed_counts : (m : ℕ) (l : Ledger) (n : ℕ) (asked connected : List ℕ) → number m l n ≡ 0 → answer_of l (Ok (next m l n asked connected)) ≡ feed m l n asked connected
unfolding feed
feed_counts m l n asked connected z = rw z

-- a declined feed counts nothing
pub declined_keeps : (m : ℕ) (l : Ledger) (n : ℕ) (asked connected : List ℕ) → ((feed m l n asked connected).number ≡ 0 → ⊥)
    → (feed m l n asked connected).fields ≡ l
declined_keeps m l n asked connected = feed_cases m l n asked connected (λ r. (r.number ≡ 0 → ⊥) → r.fields ≡ l) (λ z ne. absurd (ne refl)) (λ ne z. refl)
