-- The number and the rounds of a word come apart.
use mathlib.Core.Path.{◌≡◌}
use Prim.Native.Nat.{◌/◌, ◌%◌, ◌<◌}
use native.Mathlib.Omega.{arith}
use Rattle.ports.specs.Answer.{Answer}
use Rattle.bellacush.specs.Slot.{word_of}

module _ (a : Answer) (small : a.number < 256) where
  pub word_number : word_of a % 256 ≡ a.number
  word_number = omega arith

  pub word-rounds : word_of a / 256 ≡ a.rounds
  word-rounds = omega arith
