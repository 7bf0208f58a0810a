-- The votes of both operators' hosts in one pass: what the code makes of them.
use Rattle.std.specs.Prelude.{ℕ, ◌-◌, ◌≡◌, List}
use Rattle.std.specs.Int.Bits.{bit_and, bit_or}
use Rattle.laws.specs.Sets.{has}
use Rattle.ports.specs.Owners.{among}
use Rattle.hearing.specs.Heard.{present}
use Rattle.hearing.specs.declared.Votes.{Votes}

-- what host h votes, of the heard: it lets through whoever is of the other operator
unfoldable pub heeded : ℕ → ℕ → ℕ → ℕ → ℕ
heeded owners heard ben h = bit_or ben (heard - among owners h heard)

-- one vote more: nobody has cleared whom it lets through of the uncleared, and at most one host whom it lets through or nobody had cleared
abbrev pub cast : ℕ → Votes → Votes
cast ballot v = record { uncleared = bit_and v.uncleared ballot; enabled = bit_or (bit_and v.enabled ballot) v.uncleared }

-- s is the set of those who are present by the votes of their own operator's hosts
abbrev pub Present : ℕ → ℕ → ℕ → List ℕ → ℕ → Type 0
Present n owners heard ben s = (i : ℕ) → has s i ≡ present n (among owners i heard) ben i
