-- Of the entries of a pair the first leaves, if the pair is granted, and the others stay.
use mathlib.Core.Path.{◌≡◌, refl, sym, ap, ◌∙◌}
use mathlib.Core.Bool.{Bool, true, false, not, cond}
use mathlib.Core.List.{List, [], ◌∷◌}
use Prim.Native.Nat.{ℕ}
use lib.Dec.{eqb}
use lib.ListN.{length, take, drop}
use borrow.Author.Tests.{eqb-true}
use Rattle.laws.specs.Sets.{asks}
use Rattle.laws.proofs.Tests.{both}
use Rattle.queue_records.specs.Entries.{initiator_of, target_of, of_pair, those}
use Rattle.queues.specs.Parting.{granted, spent, leaving, staying}
use Rattle.queues.proofs.Grants.{spent-pair, spent_other, spent_too}

-- the entry is of the pair: its grant is the pair's
of_pair_lem : (m : ℕ) (sets : List ℕ) (e i t : ℕ) → of_pair m i t e ≡ true → granted m sets e ≡ asks sets i t
of_pair_lem m sets e i t p =
    let (a, b) = both (eqb (initiator_of m e) i) (eqb (target_of m e) t) p in
    rw (eqb-true (initiator_of m e) i a, eqb-true (target_of m e) t b)

module _ (m i t : ℕ) where
  abbrev p : ℕ → Bool
  p = of_pair m i t

  -- the pair's grant is spent with its entry, and with no other
  own_spent : (sets : List ℕ) (e : ℕ) → p e ≡ true → asks (spent m sets e) i t ≡ false
  own_spent sets e y = sym (of_pair_lem m (spent m sets e) e i t y) ∙ spent-pair m sets e

  pub those_leave : (s sets : List ℕ) → those p (leaving m sets s) ≡ cond (asks sets i t) (take 1 (those p s)) []
  unfolding those leaving
  those_leave [] sets = same (asks sets i t)
    where
      same : (b : Bool) → ◌≡◌ {A = List ℕ} [] (cond b [] [])
      same true = refl
      same false = refl
  those_leave (e ∷ s) sets = go (p e) refl (granted m sets e) refl (those_leave s (spent m sets e)) (those_leave s sets)
    where
      go : (d : Bool) → p e ≡ d → (g : Bool) → granted m sets e ≡ g → those p (leaving m (spent m sets e) s) ≡ cond (asks (spent m sets e) i t) (take 1 (those p s)) []
          → those p (leaving m sets s) ≡ cond (asks sets i t) (take 1 (those p s)) []
          → those p (cond g (e ∷ leaving m (spent m sets e) s) (leaving m sets s)) ≡ cond (asks sets i t) (take 1 (cond d (e ∷ those p s) (those p s))) []
      go true y true z after now = rw (y, ← of_pair_lem m sets e i t y, z) (ap (λ (l : List ℕ). e ∷ l) (rw (own_spent sets e y) at after))
      go true y false z after now = let none = sym (of_pair_lem m sets e i t y) ∙ z in rw none (rw none at now)
      go false y true z after now = rw (y, ← spent_other m sets e i t y) after
      go false y false z after now = now

  pub those_stay : (s sets : List ℕ) → those p (staying m sets s) ≡ cond (asks sets i t) (drop 1 (those p s)) (those p s)
  unfolding those staying
  those_stay [] sets = same (asks sets i t)
    where
      same : (b : Bool) → ◌≡◌ {A = List ℕ} [] (cond b [] [])
      same true = refl
      same false = refl
  those_stay (e ∷ s) sets = go (p e) refl (granted m sets e) refl (those_stay s (spent m sets e)) (those_stay s sets)
    where
      go : (d : Bool) → p e ≡ d → (g : Bool) → granted m sets e ≡ g → those p (staying m (spent m sets e) s) ≡ cond (asks (spent m sets e) i t) (drop 1 (those p s)) (those p s)
          → those p (staying m sets s) ≡ cond (asks sets i t) (drop 1 (those p s)) (those p s)
          → those p (cond g (staying m (spent m sets e) s) (e ∷ staying m sets s)) ≡ cond (asks sets i t) (drop 1 (cond d (e ∷ those p s) (those p s))) (cond d (e ∷ those p s) (those p s))
      go true y true z after now = rw (← of_pair_lem m sets e i t y, z) (rw (own_spent sets e y) at after)
      go true y false z after now = let none = sym (of_pair_lem m sets e i t y) ∙ z in rw (y, none) (ap (λ (l : List ℕ). e ∷ l) (rw none at now))
      go false y true z after now = rw (← spent_other m sets e i t y) after
      go false y false z after now = rw y now

-- each that leaves was granted
pub all_granted : (m : ℕ) (s sets all : List ℕ) → ((i t : ℕ) → asks sets i t ≡ true → asks all i t ≡ true) → length (those (λ e. not (granted m all e)) (leaving m sets s)) ≡ 0
unfolding those leaving
all_granted m [] sets all too = refl
all_granted m (e ∷ s) sets all too = go (granted m sets e) refl (all_granted m s (spent m sets e) all (λ i t a. too i t (spent_too m sets e i t a).1)) (all_granted m s sets all too)
  where
    q : ℕ → Bool
    q e = not (granted m all e)

    go : (g : Bool) → granted m sets e ≡ g → length (those q (leaving m (spent m sets e) s)) ≡ 0 → length (those q (leaving m sets s)) ≡ 0
        → length (those q (cond g (e ∷ leaving m (spent m sets e) s) (leaving m sets s))) ≡ 0
    go true z after now = rw (too (initiator_of m e) (target_of m e) z) after
    go false z after now = now
