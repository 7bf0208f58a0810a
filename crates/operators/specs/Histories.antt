-- Two histories of calls, side by side, over any kind S of state and any kind C of call; and what an operator sends to the card's lent calls and to C
-- calls of two histories, and sees of them.
use Rattle.std.specs.Prelude.{◌≡◌, Bool, true, List, [], ◌∷◌, ℕ, ◌*◌, length, get_or}
use Rattle.laws.specs.Parts.{part}
use Rattle.ports.specs.Owners.{of}
use Rattle.ports.specs.declared.state.State.{State}
use Rattle.demands.specs.LentCall.{LentCall}
use Rattle.table_bytes.specs.State.{state_of}
use Rattle.promised.specs.Call.{Handed, Left, number_in, CCall}
use Rattle.operators.specs.Unaffected.{SameFrames, SeenAlike, Sent}

-- as many calls in both; Q holds of each call of the one and the call of the other in its place, and of the states before them
unfoldable pub InBoth : {S C : Type 0} → (S → C → S) → (S → S → C → C → Type 0) → S → S → List C → List C → Type 0
InBoth next Q s u [] [] = Unit {0}
InBoth next Q s u [] (d ∷ ds) = ⊥
InBoth next Q s u (c ∷ cs) [] = ⊥
InBoth next Q s u (c ∷ cs) (d ∷ ds) = Q s u c d × InBoth next Q (next s c) (next u d) cs ds

-- Q, and the states before both calls are the same
abbrev pub Same : {S C : Type 0} → (S → C → C → Type 0) → S → S → C → C → Type 0
Same Q s u c d = (s ≡ u) × Q s c d

-- Q, said of the state of the first
abbrev pub Given : {S C : Type 0} → (S → C → C → Type 0) → S → S → C → C → Type 0
Given Q s u c d = Q s c d

-- ---- the card's calls, lent the state and the output

abbrev pub LentSent : ℕ → State → LentCall → LentCall → Type 0
LentSent a st d e = Sent a st d.call e.call

pub record LentSeen (a : ℕ) (st : State) (d e : LentCall) : Type 0 where
  pub number : d.answer.number ≡ e.answer.number
  pub state : d.state ≡ e.state
  pub sets : (i : ℕ) → of st.owners a i ≡ true → get_or d.answer.sets i 0 ≡ get_or e.answer.sets i 0
  pub output : SeenAlike (of st.owners a) st.ports d.out e.out

-- ---- C calls

-- two tables' bytes that are the same to an operator: the two bytes of the set of each of its initiators
abbrev pub TableAlike : (ℕ → Bool) → List ℕ → List ℕ → Type 0
TableAlike own table table' = (i : ℕ) → own i ≡ true → part (i * 2) 2 table ≡ part (i * 2) 2 table'

-- two calls that differ in the others' frames, and in what of the lent bytes the operator does not see
pub record CSame (own : ℕ → Bool) (n : ℕ) (c d : Handed) : Type 0 where
  pub lent : c.lent ≡ d.lent
  pub slot : c.slot ≡ d.slot
  pub mode : c.mode ≡ d.mode
  pub frames : SameFrames own n c.block d.block
  pub link : c.link ≡ d.link
  pub room : length c.out ≡ length d.out
  pub rows : length c.table ≡ length d.table
  pub output : SeenAlike own n c.out d.out
  pub table : TableAlike own c.table d.table

-- the number in the word, all bytes of the state, and what it sees of the output and of the table
pub record CAlike (own : ℕ → Bool) (n : ℕ) (l r : Left) : Type 0 where
  pub number : number_in l ≡ number_in r
  pub state : l.state ≡ r.state
  pub output : SeenAlike own n l.out r.out
  pub table : TableAlike own l.table r.table

abbrev pub CSent : ℕ → List ℕ → CCall → CCall → Type 0
CSent a state d e = CSame (of (state_of state).owners a) (state_of state).ports d.handed e.handed

abbrev pub CSeen : ℕ → List ℕ → CCall → CCall → Type 0
CSeen a state d e = CAlike (of (state_of state).owners a) (state_of state).ports d.left e.left
