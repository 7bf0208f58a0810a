-- The slot call that is lent the state: what it answers, and what stands behind both references at exit, is what the step says.
use Rattle.std.specs.Prelude.{◌≡◌, List, ℕ}
use Rattle.ports.specs.declared.state.State.{State}
use Rattle.ports.specs.declared.state.Mode.{Mode}
use Rattle.ports.specs.Answer.{Answer}
use Rattle.shelf.specs.Step.{stepped, output}

pub record Lent (m : ℕ) (st : State) (slot : ℕ) (mode : Mode) (block : List ℕ) (link : ℕ) (out : List ℕ) (answer : Answer) (next : State) (after : List ℕ) : Type 0 where
  pub answered : answer ≡ (stepped m st slot mode block out).answer
  pub moved : next ≡ (stepped m st slot mode block out).state
  pub granted : after ≡ output m st slot mode block link out
