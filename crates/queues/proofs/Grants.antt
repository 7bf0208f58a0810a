-- A grant is spent: its pair is granted no more, and every other is as it was. So where no target is granted twice, no more leave than there are targets.
use mathlib.Core.Path.{◌≡◌, refl, sym, ap, ◌∙◌}
use mathlib.Core.Bool.{Bool, true, false, ◌&&◌, cond, true≢false}
use mathlib.Core.List.{List, [], ◌∷◌}
use Prim.Native.Nat.{ℕ, ◌≤◌, ◌<◌}
use native.Mathlib.Nat.{mod-lt, le_trans}
use native.Mathlib.Decide.{ℕ_discrete, dec_lt}
use native.Mathlib.Omega.{arith}
use lib.Dec.{eqb}
use lib.ListN.{length, get_or, set, get_or-eq_default}
use lib.Seq.{get_or-set_same, get_or-set_other, set_out}
use borrow.Author.Tests.{eq-eqb, ne_eqb, eqb-true, eqb-false}
use Rattle.laws.specs.Steps.{some}
use Rattle.laws.specs.Sets.{has, without, tally, asks}
use Rattle.laws.proofs.Members.{has_none, has-without, asks-row}
use Rattle.laws.proofs.Steps.{some_true, true_some}
use Rattle.laws.proofs.Tallies.{tally_most, tally_fewer}
use Rattle.laws.proofs.Tests.{both, every, refuted}
use Rattle.queue_records.specs.Entries.{initiator_of, target_of, of_pair}
use Rattle.queues.specs.Parting.{granted, spent, leaving}

module _ (rows : List ℕ) (a b : ℕ) where
  abbrev after : List ℕ
  after = set rows a (without (get_or rows a 0) b)

  pub served_grant : asks after a b ≡ false
  served_grant = go (dec_lt a (length rows))
    where
      go : Dec (a < length rows) → asks after a b ≡ false
      go (yes h) = rw (get_or-set_same rows a (without (get_or rows a 0) b) 0 h, has-without (get_or rows a 0) b b, eq-eqb b b refl)
      go (no h) = ap (λ (l : List ℕ). asks l a b) (set_out rows a (without (get_or rows a 0) b) (omega arith)) ∙ ap (λ s. has s b) (get_or-eq_default rows 0 {n = a} (omega arith)) ∙ has_none b

  pub other_grant : (i t : ℕ) → (eqb a i && eqb b t) ≡ false → asks after i t ≡ asks rows i t
  other_grant i t e = go (ℕ_discrete i a) (dec_lt a (length rows))
    where
      go : Dec (i ≡ a) → Dec (a < length rows) → asks after i t ≡ asks rows i t
      go (no n) d = ap (λ s. has s t) (get_or-set_other rows a i (without (get_or rows a 0) b) 0 n)
      go (yes y) (no h) = ap (λ (l : List ℕ). asks l i t) (set_out rows a (without (get_or rows a 0) b) (omega arith))
      go (yes y) (yes h) =
          let other : eqb t b ≡ false = ne_eqb t b (λ z. eqb-false b t (rw (eq-eqb a i (sym y)) at e) (sym z)) in
          rw y (rw (get_or-set_same rows a (without (get_or rows a 0) b) 0 h, has-without (get_or rows a 0) b t, other))

module _ (m : ℕ) where
  pub spent-pair : (sets : List ℕ) (e : ℕ) → granted m (spent m sets e) e ≡ false
  spent-pair sets e = served_grant sets (initiator_of m e) (target_of m e)

  pub spent_other : (sets : List ℕ) (e i t : ℕ) → of_pair m i t e ≡ false → asks (spent m sets e) i t ≡ asks sets i t
  spent_other sets e i t = other_grant sets (initiator_of m e) (target_of m e) i t

  -- no target is granted twice
  abbrev pub Lone : List ℕ → Type 0
  Lone sets = (i j t : ℕ) → asks sets i t ≡ true → asks sets j t ≡ true → i ≡ j

  pub spent_too : (sets : List ℕ) (e i t : ℕ) → asks (spent m sets e) i t ≡ true → (of_pair m i t e ≡ false) × (asks sets i t ≡ true)
  spent_too sets e i t a = go (of_pair m i t e) refl
    where
      go : (b : Bool) → of_pair m i t e ≡ b → (of_pair m i t e ≡ false) × (asks sets i t ≡ true)
      go true p =
          let (x, y) = both (eqb (initiator_of m e) i) (eqb (target_of m e) t) p in
          absurd (true≢false (sym a ∙ rw (← eqb-true (initiator_of m e) i x, ← eqb-true (target_of m e) t y) (spent-pair sets e)))
      go false p = (p, sym (spent_other sets e i t p) ∙ a)

  -- target t is granted to someone
  abbrev taken : List ℕ → ℕ → Bool
  taken sets t = some (λ i. asks sets i t) (length sets)

  fewer_taken : 0 < m → (sets : List ℕ) (e : ℕ) → Lone sets → granted m sets e ≡ true → tally (taken (spent m sets e)) m < tally (taken sets) m
  fewer_taken more sets e lone g = tally_fewer (taken sets) (taken (spent m sets e)) too m (target_of m e) (mod-lt e more)
      (true_some (λ i. asks sets i (target_of m e)) (length sets) (initiator_of m e) (asks-row sets (initiator_of m e) (target_of m e) g) g)
      (refuted _ gone)
    where
      too : (t : ℕ) → taken (spent m sets e) t ≡ true → taken sets t ≡ true
      too t s =
          let (i, h, a) = some_true (λ i. asks (spent m sets e) i t) (length (spent m sets e)) s in
          let b = (spent_too sets e i t a).1 in
          true_some (λ i. asks sets i t) (length sets) i (asks-row sets i t b) b

      gone : taken (spent m sets e) (target_of m e) ≡ true → ⊥
      gone s =
          let (i, h, a) = some_true (λ i. asks (spent m sets e) i (target_of m e)) (length (spent m sets e)) s in
          let (other, b) = spent_too sets e i (target_of m e) a in
          true≢false (sym (every (eq-eqb (initiator_of m e) i (lone (initiator_of m e) i (target_of m e) g b)) (eq-eqb (target_of m e) (target_of m e) refl)) ∙ other)

  few_leave : 0 < m → (s sets : List ℕ) → Lone sets → length (leaving m sets s) ≤ tally (taken sets) m
  unfolding leaving
  few_leave more [] sets lone = omega arith
  few_leave more (e ∷ s) sets lone = go (granted m sets e) refl (few_leave more s (spent m sets e) (λ i j t a b. lone i j t (spent_too sets e i t a).1 (spent_too sets e j t b).1)) (few_leave more s sets lone)
    where
      go : (b : Bool) → granted m sets e ≡ b → length (leaving m (spent m sets e) s) ≤ tally (taken (spent m sets e)) m → length (leaving m sets s) ≤ tally (taken sets) m
          → length (cond b (e ∷ leaving m (spent m sets e) s) (leaving m sets s)) ≤ tally (taken sets) m
      go true g h l = omega (arith, fewer_taken more sets e lone g)
      go false g h l = l

  pub lone_few : 0 < m → (sets s : List ℕ) → Lone sets → length (leaving m sets s) ≤ m
  lone_few more sets s lone = le_trans (few_leave more s sets lone) (tally_most (taken sets) m)
