-- What came into the queue of a pair in a history of calls, and what went out of it.
use Rattle.std.specs.Prelude.{List, [], ◌∷◌, ◌++◌, ℕ}
use Rattle.queued.specs.Shelf.{Shelf, Call, next, comes, goes}

-- what each call gives, one after the other; the first is made on st, and `next` is what a call leaves to the one after it
unfoldable pub through : {S C A : Type 0} → (S → C → S) → (S → C → List A) → S → List C → List A
through next gives st [] = []
through next gives st (c ∷ calls) = gives st c ++ through next gives (next st c) calls

abbrev pub came : ℕ → ℕ → ℕ → ℕ → ℕ → Shelf → List Call → List (List ℕ)
came m c w i t = through (next m c w) (comes m c w i t)

abbrev pub went : ℕ → ℕ → ℕ → ℕ → ℕ → Shelf → List Call → List (List ℕ)
went m c w i t = through (next m c w) (goes m c w i t)
