-- `frames::held::Held::in_form` meets its contract: a set of sixteen bits has two bytes.
use native.Mathlib.Omega.{arith}
use borrow.Author.Tests.{lt-ltb}
use Rattle.frames.specs.Held.{held_in_form}
use Rattle.frames.proofs.held.Held.in_form.Goals as goal

pub returns : goal.returns
unfolding held_in_form
returns c = rw (c.agrees.ensures, lt-ltb c.args.self.set 65536 (omega arith))
