-- `words::check::crc_byte` meets its contract: after so many turns so many of the eight steps are done.
use mathlib.Core.Path.{◌≡◌}
use Prim.Native.Nat.{ℕ, ◌*◌}
use lib.Bits.{bit_xor}
use Rattle.laws.specs.Steps.{steps}
use Rattle.words.specs.Check.{crc_bit}
use Rattle.words.proofs.check.crc_byte.Given as goal

abbrev pub invariant-loop : goal.invariant-loop
invariant-loop l = l.x ≡ steps (λ (i y : ℕ). crc_bit y) (bit_xor l.c (l.b * 256)) l.counter
