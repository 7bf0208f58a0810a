-- A state that can be served, and a fresh one.
use Rattle.std.specs.Prelude.{ℕ, ◌<◌, ◌≤◌, cond, ◌||◌, List, nat_lt}
use Rattle.refusals.specs.Numbers.{Answer}
use Rattle.ports.specs.Owners.{owners_of, no_operator}
use Rattle.ports.specs.declared.state.State.{State}

-- on a shelf of at most m ports
pub record Ready (m : ℕ) (st : State) : Type 0 where
  pub ports : st.ports ≤ m
  pub initiator : st.initiator.0 < st.ports
  pub target : st.target.0 < st.ports

-- offsets 0
abbrev pub at_first : ℕ → ℕ → ℕ → State
at_first n due owners = record { ports = n; initiator = record { 0 = 0 }; target = record { 0 = 0 }; due = due; owners = owners }

-- a fresh state of n ports, on shelves of at most m, an operator number being given for each: number 1 when n is outside 1 to m, 15 when
-- a port is given none of the two operators, and then a state of zeros
unfoldable pub fresh : ℕ → ℕ → ℕ → List ℕ → Answer State
fresh m n due operators =
    cond (nat_lt n 1 || nat_lt m n) (record { number = 1; fields = at_first 0 0 0 })
    (cond (no_operator operators n) (record { number = 15; fields = at_first 0 0 0 })
    (record { number = 0; fields = at_first n due (owners_of operators n) }))
