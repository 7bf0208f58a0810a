-- A state as nine bytes: n, I and J, a byte each, the slot due, four bytes, and the owners, two.
use Rattle.std.specs.Prelude.{ℕ, ◌^◌, ◌<◌, cond, List, ◌++◌, leb, length, get_or, take, drop}
use Rattle.laws.specs.Bytes.{big_endian, number}
use Rattle.ports.specs.Ready.{at_first}
use Rattle.ports.specs.declared.state.State.{State}

abbrev pub state_len : ℕ
state_len = 9

-- the state that the bytes are
unfoldable pub state_of : List ℕ → State
state_of s =
    record {
      ports = get_or s 0 0;
      initiator = record { 0 = get_or s 1 0 };
      target = record { 0 = get_or s 2 0 };
      due = number (take 4 (drop 3 s));
      owners = number (take 2 (drop 7 s));
    }

-- the same, and a state of zeros where the bytes are too few
unfoldable pub state_in : List ℕ → State
state_in s = cond (leb state_len (length s)) (state_of s) (at_first 0 0 0)

-- the bytes of a state
unfoldable pub state_bytes : State → List ℕ
state_bytes st = big_endian 1 st.ports ++ big_endian 1 st.initiator.0 ++ big_endian 1 st.target.0 ++ big_endian 4 st.due ++ big_endian 2 st.owners

-- the states that nine bytes hold
pub record Fits (st : State) : Type 0 where
  pub ports : st.ports < 256
  pub initiator : st.initiator.0 < 256
  pub target : st.target.0 < 256
  pub due : st.due < 256 ^ 4
  pub owners : st.owners < 256 ^ 2
