-- What a declined call leaves, and when numbers 1 and 2 do not apply.
use Rattle.std.specs.Prelude.{◌≡◌, ℕ, ◌^◌, ◌≤◌, ◌<◌, replicate}
use Rattle.ports.specs.declared.state.State.{State}
use Rattle.ports.specs.Answer.{Stepped}
use Rattle.demands.specs.History.{Below}

-- the state is in order on shelves of at most m ports: 1 to m ports, and offsets below them
pub record InOrder (m : ℕ) (st : State) : Type 0 where
  pub some_port : 1 ≤ st.ports
  pub ports_at_most : st.ports ≤ m
  pub offsets : Below st

-- and the slot due is a number of 32 bits
pub record Valid (m : ℕ) (st : State) : Type 0 where
  pub in_order : InOrder m st
  pub due_small : st.due < 2 ^ 32

-- a call leaves the state as it was, and connects nobody
pub record Nothing (m : ℕ) (st : State) (r : Stepped) : Type 0 where
  pub state_kept : r.state ≡ st
  pub no_sets : r.answer.sets ≡ replicate m 0
  pub no_rounds : r.answer.rounds ≡ 0
