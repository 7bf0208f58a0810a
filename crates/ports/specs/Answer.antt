-- What documents 01 and 02 say that a slot answers: the next state, the number, the rounds and sixteen sets.
use Rattle.std.specs.Prelude.{ℕ, List}
use Rattle.ports.specs.declared.state.State.{State}

pub record Answer : Type 0 where
  pub number : ℕ
  pub rounds : ℕ
  pub sets : List ℕ

pub record Stepped : Type 0 where
  pub state : State
  pub answer : Answer
