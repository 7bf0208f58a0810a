use native.Mathlib.Omega.{arith}
use borrow.Author.Rules.{rules}
use Rattle.std.proofs.Common.{◌≡◌, sym, min, length, get_or-take}
use Rattle.std.proofs.lemmas.List.{length-take}
use Rattle.frames.specs.Part.{most_ports}
use Rattle.lines.specs.Line.{initiators}
use Rattle.lines.proofs.Putting.{both_put, none_put, part_put}
use Rattle.lines.proofs.Text.put_initiators.Goals as goal

pub loop-i-init : goal.loop-i-init
loop-i-init c = none_put _ _

pub loop-i-preserved : goal.loop-i-preserved
loop-i-preserved c = part_put _ _ c.loop-i.invariant (rw (sym (get_or-take c.min.result c.args.sets c.loop-i.i 0 (search rules))) c.put_initiator.ensures)

pub returns : goal.returns
unfolding initiators
returns c =
    let l = c.loop-i in
    let rows : length c.args.sets ≡ most_ports = search rules in
    let all : l.i ≡ min c.args.n (length c.args.sets) = omega (arith, c.min.ensures, length-take c.min.result c.args.sets, rows, c.loop-i-test.false, l.auto.i-end) in
    both_put (rw all at l.invariant) c.put_byte.ensures
