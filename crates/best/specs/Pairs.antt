-- Sets of pairs, as lists: of an initiator and a target each.
use mathlib.Core.List.{List, [], ◌∷◌, map, Memᴰ}
use Rattle.std.specs.Prelude.{ℕ}

abbrev pub Pair : Type 0
Pair = ℕ × ℕ

abbrev pub initiators : List Pair → List ℕ
initiators = map (λ (p : Pair). p.0)

abbrev pub targets : List Pair → List ℕ
targets = map (λ (p : Pair). p.1)

-- nothing is in the list twice
unfoldable pub NoneTwice : {A : Type 0} → List A → Type 0
NoneTwice [] = Unit {0}
NoneTwice (x ∷ rest) = (Memᴰ x rest → ⊥) × NoneTwice rest

-- a conflict-free set of live requests: no initiator and no target twice
pub record ConflictFree (Live : ℕ → ℕ → Type 0) (pairs : List Pair) : Type 0 where
  pub live : (i t : ℕ) → Memᴰ (i, t) pairs → Live i t
  pub no_initiator_twice : NoneTwice (initiators pairs)
  pub no_target_twice : NoneTwice (targets pairs)

-- the pairs with P, all of them and each once
pub record Exactly (P : ℕ → ℕ → Type 0) (pairs : List Pair) : Type 0 where
  pub only : (i t : ℕ) → Memᴰ (i, t) pairs → P i t
  pub all : (i t : ℕ) → P i t → Memᴰ (i, t) pairs
  pub once : NoneTwice pairs
