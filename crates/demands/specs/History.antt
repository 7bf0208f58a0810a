-- A history of calls on one state, over any kind S of state and any kind C of call: `next` is the state that a call leaves to the one after
-- it. A call may be one that was seen, with what it left: `Kept` then says that it kept its promise on a state. A state may be lent as bytes:
-- `view` then says which state they are.
use Rattle.std.specs.Prelude.{◌≡◌, Bool, true, false, cond, List, [], ◌∷◌, ℕ, ◌+◌, ◌*◌, ◌/◌, ◌<◌}
use Rattle.ports.specs.declared.state.State.{State}
use Rattle.lcf.specs.Advance.{advance}

-- the offsets are below the ports
pub record Below (st : State) : Type 0 where
  pub initiator : st.initiator.0 < st.ports
  pub target : st.target.0 < st.ports

-- the state that the calls leave
unfoldable pub after : {S C : Type 0} → (S → C → S) → S → List C → S
after next st [] = st
after next st (c ∷ calls) = after next (next st c) calls

-- how many of the calls have p, the first of them being made on st
unfoldable pub how_many : {S C : Type 0} → (S → C → S) → (S → C → Bool) → S → List C → ℕ
how_many next p st [] = 0
how_many next p st (c ∷ calls) = cond (p st c) 1 0 + how_many next p (next st c) calls

-- Q holds of each of the calls; and of each that is served
unfoldable pub InEach : {S C : Type 0} → (S → C → S) → (S → C → Type 0) → S → List C → Type 0
InEach next Q st [] = Unit {0}
InEach next Q st (c ∷ calls) = Q st c × InEach next Q (next st c) calls

abbrev pub InServed : {S C : Type 0} → (S → C → S) → (S → C → Bool) → (S → C → Type 0) → S → List C → Type 0
InServed next served Q = InEach next (λ st c. served st c ≡ true → Q st c)

-- the share of one pair of n² in so many slots
abbrev pub quota : ℕ → ℕ → ℕ
quota n slots = slots / (n * n)

-- a call by value leaves what it promises
abbrev pub ByValue : {S C : Type 0} → S → C → Type 0
ByValue st c = Unit {0}

-- what is asked of a kind of call that keeps its promise: a declined one keeps the state, and a served one advances it (rule 7)
pub record Moves {S C : Type 0} (view : S → State) (Kept : S → C → Type 0) (next : S → C → S) (served : S → C → Bool) : Type 0 where
  pub declined_keeps : (st : S) (c : C) → Kept st c → served st c ≡ false → view (next st c) ≡ view st
  pub served_advances : (st : S) (c : C) → Kept st c → served st c ≡ true → view (next st c) ≡ advance (view st)

-- the pair (i, t) is the favoured one, (I, J)
abbrev pub First : ℕ → ℕ → State → Type 0
First i t st = (st.initiator.0 ≡ i) × (st.target.0 ≡ t)

-- what the share of a pair asks besides: a served call connects the pair if it waits and the state favours it
pub record Fair {S C : Type 0} (view : S → State) (Kept : S → C → Type 0) (next : S → C → S) (served connects : S → C → Bool) (Waiting : S → C → Type 0)
    (Favours : State → Type 0) : Type 0 where
  pub moves : Moves view Kept next served
  pub favours : (st : S) (c : C) → Kept st c → served st c ≡ true → Waiting st c → Favours (view st) → connects st c ≡ true
