use native.Mathlib.Omega.{arith}
use mir.Syntax.{w16}
use mir.Val.{Fits}
use lib.Dec.{eqb}
use borrow.Author.Rules.{rules}
use borrow.Author.Tests.{lt-ltb}
use Rattle.laws.proofs.Tests.{every}
use Rattle.frames.specs.Held.{held_in_form}
use Rattle.shelf.specs.Grants.{grant_of}
use Rattle.shelf.proofs.Granting.{agreeing}
use Rattle.shelf.proofs.grants.grant_for.Goals as goal

pub returns : goal.returns
unfolding grant_of held_in_form
returns c =
    let set = c.args.set in
    let fits : Fits w16 set = search rules in
    (rw (c.holds.ensures, c.holds-2.ensures), every (lt-ltb c.args.i 16 (omega arith)) (every (lt-ltb set 65536 fits.fits) (agreeing (eqb set 0))))
