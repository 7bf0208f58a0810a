-- `words::bits::holds` meets its contract: a word of 16 digits has none from the sixteenth on.
use mathlib.Core.Path.{◌≡◌, sym, ap}
use mathlib.Core.Bool.{false}
use Prim.Native.Nat.{ℕ, ◌^◌, ◌≤◌, ◌<◌}
use native.Mathlib.Omega.{arith}
use lib.Dec.{eqb}
use Rattle.laws.specs.Sets.{has}
use Rattle.laws.proofs.Words.{digit_past}
use Rattle.words.proofs.bits.holds.Goals as goal

beyond : (w s k : ℕ) → s < 2 ^ w → w ≤ k → false ≡ has s k
beyond w s k h l = sym (ap (λ d. eqb d 1) (digit_past s w k h l))

pub returns-else-k-lt16 : goal.returns-else-k-lt16
returns-else-k-lt16 c = beyond 16 c.args.s c.args.k (omega arith) (omega arith)
