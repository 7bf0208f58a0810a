-- Whether a slot is due: the numbers 1 to 5, and what a slot that is not served answers.
use Rattle.std.specs.Prelude.{ℕ, ◌+◌, ◌-◌, ◌%◌, ◌^◌, Bool, false, cond, ◌&&◌, ◌||◌, replicate, ◌==◌, nat_le, nat_lt}
use Rattle.ports.specs.declared.state.State.{State}
use Rattle.ports.specs.declared.state.Mode.{Mode}
use Rattle.ports.specs.declared.state.Mode.TheVariants.{Central, Distributed, Diagonal}
use Rattle.ports.specs.Answer.{Stepped}

-- how far the slot is behind the one due, modulo 2 ^ 32
unfoldable pub behind : State → ℕ → ℕ
behind st slot = (st.due + 2 ^ 32 - slot) % 2 ^ 32

-- the round limit is outside 1 to m
unfoldable pub wrong_limit : ℕ → Mode → Bool
wrong_limit m Central = false
wrong_limit m (Distributed limit) = nat_lt limit 1 || nat_lt m limit
wrong_limit m Diagonal = false

-- the numbers 1 to 5, on shelves of at most m ports; 0 if none applies
unfoldable pub due_number : ℕ → State → ℕ → Mode → ℕ
due_number m st slot mode =
    cond (nat_lt st.ports 1 || nat_lt m st.ports) 1
    (cond (nat_le st.ports st.initiator.0 || nat_le st.ports st.target.0) 2
    (cond (nat_le 1 (behind st slot) && nat_le (behind st slot) (2 ^ 31)) 3
    (cond (nat_lt (2 ^ 31) (behind st slot)) 4
    (cond (wrong_limit m mode) 5 0))))

-- a declined slot: the state as it was, sixteen empty sets and 0 rounds
unfoldable pub declined : ℕ → State → ℕ → Stepped
declined m st number = record { state = st; answer = record { number = number; rounds = 0; sets = replicate m 0 } }

-- the state, and one of a single port where 1 or 2 declines it
unfoldable pub orderly : ℕ → State → State
orderly m st =
    cond (due_number m st st.due Central == 0) st (record { ports = 1; initiator = record { 0 = 0 }; target = record { 0 = 0 }; due = st.due; owners = st.owners })
