-- What is said of a slot where the same is live and the same is joined.
use mathlib.Core.Logic.{◌↔◌}
use mathlib.Core.List.{List}
use Prim.Native.Nat.{ℕ}
use Rattle.best.specs.Pairs.{Pair, ConflictFree, Exactly}
use Rattle.best.specs.Best.{Joined, AtMost, Compared}

free_alike : {Live Live' : ℕ → ℕ → Type 0} → ((i t : ℕ) → Live i t → Live' i t) → (pairs : List Pair) → ConflictFree Live pairs → ConflictFree Live' pairs
free_alike too pairs h = record { live = λ i t m. too i t (h.live i t m); no_initiator_twice = h.no_initiator_twice; no_target_twice = h.no_target_twice }

exactly_alike : {P Q : ℕ → ℕ → Type 0} → ((i t : ℕ) → P i t ↔ Q i t) → (pairs : List Pair) → Exactly P pairs → Exactly Q pairs
exactly_alike same pairs h = record { only = λ i t m. (same i t).0 (h.only i t m); all = λ i t q. h.all i t ((same i t).1 q); once = h.once }

module _ {Live Live' Given Given' : ℕ → ℕ → Type 0} {sets sets' : List ℕ}
    (lives : (i t : ℕ) → Live i t ↔ Live' i t) (joins : (i t : ℕ) → Joined Given sets i t ↔ Joined Given' sets' i t) where
  pub at_most_alike : (k : ℕ) → AtMost k Live Given sets → AtMost k Live' Given' sets'
  at_most_alike k h = record {
    joined = h.joined;
    exactly = exactly_alike joins _ h.exactly;
    at_most = λ pairs free. h.at_most pairs (free_alike (λ i t. (lives i t).1) pairs free);
  }

  pub compared_alike : (could did : ℕ) → Compared Live Given sets could did → Compared Live' Given' sets' could did
  compared_alike could did h = record {
    best = h.best;
    is_best = record {
      conflict_free = free_alike (λ i t. (lives i t).0) _ h.is_best.conflict_free;
      no_more = λ pairs free. h.is_best.no_more pairs (free_alike (λ i t. (lives i t).1) pairs free);
    };
    best_has = h.best_has;
    joined = h.joined;
    exactly = exactly_alike joins _ h.exactly;
    joined-has = h.joined-has;
  }
