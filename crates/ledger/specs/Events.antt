-- What a slot is to the pairs of a shelf of at most m ports, in tables of sets, a row a set.
use Rattle.std.specs.Prelude.{ℕ, List, get_or}
use Rattle.std.specs.Int.Bits.{bit_and, bit_xor}
use Rattle.laws.specs.Sets.{tabled}
use Rattle.ports.specs.Tables.{within}
use Rattle.ledger.specs.declared.events.Events.{Events}

-- what a set has and another has not
abbrev pub but : ℕ → ℕ → ℕ
but a b = bit_xor a (bit_and a b)

-- the pairs of one table that are in another too, and those that are not
unfoldable pub meet : ℕ → List ℕ → List ℕ → List ℕ
meet m a b = tabled m (λ i. bit_and (get_or a i 0) (get_or b i 0)) m

unfoldable pub less : ℕ → List ℕ → List ℕ → List ℕ
less m a b = tabled m (λ i. but (get_or a i 0) (get_or b i 0)) m

-- rows and bits at or above n are ignored; what waited is asked and not connected in the slot before
unfoldable pub happened : ℕ → ℕ → List ℕ → List ℕ → List ℕ → Events
happened m n waited asked connected =
    let asks = within n asked in
    record {
      asked = asks;
      connected = meet m asks connected;
      fresh = less m asks waited;
      withdrawn = less m waited asks;
      waiting = less m asks connected;
    }
