-- How long others can keep a pair out.
use Rattle.std.specs.Prelude.{◌≡◌, Bool, List, ℕ}
use Rattle.ports.specs.declared.state.State.{State}
use Rattle.demands.specs.History.{Below, how_many, InEach, InServed}

-- a history of n served slots of n ports, in each of which a pair waits, and in none of which it is in the table returned
pub record KeptOut {S C : Type 0} (view : S → State) (Kept : S → C → Type 0) (next : S → C → S) (served returned : S → C → Bool) (Waiting : S → C → Type 0)
    (n : ℕ) : Type 0 where
  pub first : S
  pub calls : List C
  pub kept : InEach next Kept first calls
  pub ports : (view first).ports ≡ n
  pub offsets : Below (view first)
  pub slots : how_many next served first calls ≡ n
  pub waiting : InServed next served Waiting first calls
  pub unconnected : how_many next returned first calls ≡ 0
