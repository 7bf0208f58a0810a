-- `words::check::seal` meets its contract.
use mathlib.Core.Path.{refl}
use Prim.Native.Nat.{◌-◌}
use native.Mathlib.Omega.{arith}
use lib.ListN.{length, take}
use borrow.Author.Tests.{le-leb, lt-leb}
use Rattle.words.specs.Check.{sealed, checked}
use Rattle.words.proofs.LibraryBytes.{two_bytes}
use Rattle.words.proofs.check.seal.Goals as goal

pub returns-in-Some : goal.returns-in-Some
unfolding sealed
returns-in-Some g c =
    let cut = c.in-Some.ensures.cases in
    let front = take (length c.args.s.now - 2) c.args.s.now in
    rw (le-leb 2 (length c.args.s.now) (omega (arith, cut.2)), c.to_be_bytes.ensures, two_bytes c.of.result, c.of.ensures, cut.0) (refl {a = checked front})

pub returns-in_default : goal.returns-in_default
unfolding sealed
returns-in_default g c = rw (lt-leb 2 _ c.in_default.ensures.cases) refl
