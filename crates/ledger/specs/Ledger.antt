-- The ledger on shelves of at most m ports: an empty one, the figures that it shows, and what a feed makes of it.
use Rattle.std.specs.Prelude.{ℕ, ◌+◌, Bool, ◌||◌, cond, List, eqb, ltb, leb, get_or, replicate}
use Rattle.laws.specs.Steps.{some}
use Rattle.laws.specs.Sets.{asks}
use Rattle.refusals.specs.Numbers.{Answer}
use Rattle.ledger.specs.Counts.{pairs, pair, raised, most_slots}
use Rattle.ledger.specs.Events.{happened}
use Rattle.ledger.specs.declared.book.Ledger.{Ledger}
use Rattle.ledger.specs.declared.book.Figures.{Figures}

unfoldable pub empty : ℕ → Ledger
empty m =
    let none : List ℕ = replicate (pairs m) 0 in
    record { slots = 0; asked = none; connected = none; fresh = none; withdrawn = none; waiting = replicate m 0 }

-- the five figures of the pair (i, t)
unfoldable pub figures_of : ℕ → Ledger → ℕ → ℕ → Figures
figures_of m l i t =
    let count : List ℕ → ℕ = λ counts. get_or counts (pair m i t) 0 in
    record {
      asked = count l.asked;
      connected = count l.connected;
      fresh = count l.fresh;
      withdrawn = count l.withdrawn;
      isopen = cond (asks l.waiting i t) 1 0;
    }

-- a call that declines shows zeros
abbrev pub no_figures : Figures
no_figures = record { asked = 0; connected = 0; fresh = 0; withdrawn = 0; isopen = 0 }

unfoldable pub hidden : ℕ → Answer Figures
hidden number = record { number = number; fields = no_figures }

-- the call that shows them: number 11 for i or t at or above m
unfoldable pub shown : ℕ → Ledger → ℕ → ℕ → Answer Figures
shown m l i t = cond (leb m i || leb m t) (hidden 11) (record { number = 0; fields = figures_of m l i t })

-- one of a pair's figures is above x; and the ledger shows one above its slots counted
unfoldable pub high : ℕ → Figures → Bool
high x f = ltb x f.asked || ltb x f.connected || ltb x f.fresh || ltb x f.withdrawn || ltb x f.isopen

unfoldable pub over : ℕ → Ledger → Bool
over m l = some (λ i. some (λ t. high l.slots (figures_of m l i t)) m) m

-- the numbers 1 and 13; 0 if the slot is to be counted
unfoldable pub refusal : ℕ → ℕ → ℕ → Bool → ℕ
refusal m n slots is_over = cond (ltb n 1 || ltb m n) 1 (cond (leb most_slots slots || is_over) 13 0)

unfoldable pub number : ℕ → Ledger → ℕ → ℕ
number m l n = refusal m n l.slots (over m l)

-- the ledger with one slot more
unfoldable pub next : ℕ → Ledger → ℕ → List ℕ → List ℕ → Ledger
next m l n asked connected =
    let slot = happened m n l.waiting asked connected in
    record {
      slots = l.slots + 1;
      asked = raised m slot.asked l.asked;
      connected = raised m slot.connected l.connected;
      fresh = raised m slot.fresh l.fresh;
      withdrawn = raised m slot.withdrawn l.withdrawn;
      waiting = slot.waiting;
    }

-- the feed: a ledger that declines stays as it was
unfoldable pub feed : ℕ → Ledger → ℕ → List ℕ → List ℕ → Answer Ledger
feed m l n asked connected =
    cond (eqb (number m l n) 0)
    (record { number = 0; fields = next m l n asked connected })
    (record { number = number m l n; fields = l })
