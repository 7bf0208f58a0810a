-- `frame_calls::writing::write_held` meets its contract.
use mathlib.Core.Path.{refl}
use native.Mathlib.Omega.{arith}
use borrow.Author.Tests.{le-ltb}
use Rattle.frames.specs.Frame.{written}
use Rattle.frames.specs.Held.{held_in_form}
use Rattle.frame_calls.proofs.writing.write_held.Goals as goal

pub returns-in_default : goal.returns-in_default
unfolding held_in_form written
returns-in_default c = rw (le-ltb c.args.node 16 (grind (arith, c.in_default.ensures))) (refl, refl)
