-- `words::check::intact` meets its contract.
use mathlib.Core.Path.{◌≡◌, refl, ap, ◌∙◌}
use native.Mathlib.Omega.{arith}
use lib.ListN.{length, length-drop}
use borrow.Author.Tests.{le-leb, lt-leb}
use Rattle.words.specs.Check.{intact}
use Rattle.words.proofs.LibraryBytes.{number_two}
use Rattle.words.proofs.check.intact.Goals as goal

pub returns-in-Some : goal.returns-in-Some
unfolding intact
returns-in-Some g c =
    let cut = c.in-Some.ensures.cases in
    let two : length c.in-Some.check.now ≡ 2 = ap length cut.1 ∙ length-drop _ c.args.s.now ∙ omega (arith, cut.2) in
    rw (le-leb 2 (length c.args.s.now) (omega (arith, cut.2)), c.from_be_bytes.ensures, number_two c.in-Some.check.now two, c.of.ensures, cut.0, cut.1) refl

pub returns-in-None : goal.returns-in-None
unfolding intact
returns-in-None g c = rw (lt-leb 2 _ c.in-None.ensures.cases) refl
