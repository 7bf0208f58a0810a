-- Rules 1 and 2 on tables: who is heard and enabled, and what of the hosts' fields counts. Both go by one narrowing, `among`: of the heard
-- hosts, and of what a host asks for, what is of its own operator.
use Rattle.std.specs.Prelude.{ℕ, Bool, not, ◌&&◌, cond, List, ltb, length, get_or}
use Rattle.laws.specs.Sets.{has, asks, tally, tabled}
use Rattle.ports.specs.Owners.{among}
use Rattle.hearing.specs.declared.Tables.{Tables}

-- host h is heard and has bit i clear in ben
abbrev pub clears : ℕ → List ℕ → ℕ → ℕ → Bool
clears heard ben i h = has heard h && not (asks ben h i)

-- initiator i is heard, and fewer than two hosts clear its bit
unfoldable pub present : ℕ → ℕ → List ℕ → ℕ → Bool
present n heard ben i = has heard i && ltb (tally (clears heard ben i) n) 2

-- req or pre as it counts: the targets of one's own operator, and none for a host that is unheard or disabled, by the votes of its own
-- operator's hosts
unfoldable pub counted : ℕ → ℕ → ℕ → List ℕ → List ℕ → List ℕ
counted n owners heard ben rows = tabled (length rows) (λ i. cond (present n (among owners i heard) ben i) (among owners i (get_or rows i 0)) 0) n

-- both tables as they count
unfoldable pub tables : ℕ → ℕ → ℕ → List ℕ → List ℕ → List ℕ → Tables
tables n owners heard ben req pre = record { req = counted n owners heard ben req; pre = counted n owners heard ben pre }
