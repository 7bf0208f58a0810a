-- Two operators on one shelf: port p is of operator 1 if it is in the set of owners, and otherwise of operator 0.
use Rattle.std.specs.Prelude.{ℕ, ◌-◌, Bool, cond, List, ◌==◌, bit_and, nat_eq, nat_lt, slice_index}
use Rattle.laws.specs.Steps.{some}
use Rattle.laws.specs.Sets.{digit, has, gathered}

-- the operator of port p; and whether it is operator a
abbrev pub operator : ℕ → ℕ → ℕ
operator owners p = digit owners p

abbrev pub of : ℕ → ℕ → ℕ → Bool
of owners a p = operator owners p == a

-- the ports in s that are of port i's operator
unfoldable pub among : ℕ → ℕ → ℕ → ℕ
among owners i s = cond (has owners i) (bit_and s owners) (s - bit_and s owners)

-- the owners of n ports, given an operator number for each; at or above n none
abbrev pub owners_of : List ℕ → ℕ → ℕ
owners_of operators = gathered (λ p. nat_eq (slice_index operators p) 1)

-- a port below n is given an operator number above 1
abbrev pub no_operator : List ℕ → ℕ → Bool
no_operator operators = some (λ p. nat_lt 1 (slice_index operators p))
