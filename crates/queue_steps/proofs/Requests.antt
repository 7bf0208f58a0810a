-- The pairs that are marked are those whose queues hold cells.
use mathlib.Core.Path.{◌≡◌, ap, ◌∙◌}
use mathlib.Core.List.{List}
use mathlib.Core.Bool.{true, cond}
use Prim.Native.Nat.{ℕ, ◌+◌, ◌*◌, ◌<◌}
use native.Mathlib.Nat.{mul-le-mul_right}
use native.Mathlib.Omega.{arith}
use lib.Dec.{eqb, ltb}
use lib.ListN.{length, replicate, set}
use Rattle.laws.specs.Sets.{has, with, gathered, asks, tabled}
use Rattle.laws.proofs.Loops.{same_steps}
use Rattle.laws.proofs.Members.{gathered-has, has-gathered, tabled-asks}
use Rattle.laws.proofs.Rows.{row-tabled}
use Rattle.queue_records.specs.Entries.{of_pair}
use Rattle.queue_records.specs.Records.{held_of}
use Rattle.queue_records.specs.Marks.{marked, met}
use Rattle.queue_records.proofs.Lists.{those_same}
use Rattle.queue_records.proofs.Meeting.{met_some}
use Rattle.queue_steps.specs.Asking.{pairs, pair_of}
use Rattle.queue_records.specs.Queue.{waiting}
use Rattle.queue_steps.specs.Step.{requests}
use Rattle.queue_steps.proofs.Pairs.{pair_of_lem}

module _ (m : ℕ) (words : List ℕ) where
  abbrev marks : List ℕ
  marks = marked (pair_of m) (held_of words) (replicate (pairs m) 0)

  met_waits : (i t : ℕ) → i < m → t < m → met marks (i * m + t) ≡ ltb 0 (length (waiting m words i t))
  met_waits i t hi ht =
      let some : 0 < m = omega arith in
      met_some (pair_of m) (held_of words) (pairs m) (i * m + t) (omega (arith, mul-le-mul_right m hi))
      ∙ ap (λ (l : List ℕ). ltb 0 (length l)) (those_same (λ e. eqb (pair_of m e) (i * m + t)) (of_pair m i t) (λ e. pair_of_lem m some e i t ht) (held_of words))

  pub marked-requests : tabled m (λ i. gathered (λ t. met marks (i * m + t)) m) m ≡ requests m words
  unfolding requests
  marked-requests = same_steps _ _ (replicate m 0) m (λ i rows hi. ap (set rows i) (same_steps _ _ 0 m (λ t s ht. ap (λ b. cond b (with s t) s) (met_waits i t hi ht))))

  -- a pair that asks has a queue that holds a cell, and the other way round
  pub asks_waits : (i t : ℕ) → asks (requests m words) i t ≡ true → ltb 0 (length (waiting m words i t)) ≡ true
  unfolding requests
  asks_waits i t a = (gathered-has (λ t. ltb 0 (length (waiting m words i t))) m t (tabled-asks m (λ i. gathered (λ t. ltb 0 (length (waiting m words i t))) m) m i t a).1).1

  pub waits_asks : (i t : ℕ) → i < m → t < m → asks (requests m words) i t ≡ ltb 0 (length (waiting m words i t))
  unfolding requests
  waits_asks i t hi ht = ap (λ s. has s t) (row-tabled m (λ i. gathered (λ t. ltb 0 (length (waiting m words i t))) m) m i hi hi) ∙ has-gathered (λ t. ltb 0 (length (waiting m words i t))) m t ht
