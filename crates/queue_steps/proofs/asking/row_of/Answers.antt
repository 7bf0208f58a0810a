-- `queue_steps::asking::row_of` meets its contract.
use mathlib.Core.Path.{ap, ◌∙◌}
use mathlib.Core.Bool.{cond}
use Prim.Native.Nat.{◌+◌, ◌*◌, ◌-◌}
use native.Mathlib.Omega.{arith}
use lib.Dec.{eqb}
use lib.ListN.{drop, length-take}
use lib.Seq.{get_or-take, get_or-drop}
use Rattle.frames.specs.Part.{most_ports}
use Rattle.laws.specs.Sets.{with}
use Rattle.laws.proofs.Loops.{again}
use Rattle.queue_steps.proofs.asking.row_of.Goals as goal

pub loop-t-preserved : goal.loop-t-preserved
loop-t-preserved c =
    let l = c.loop-t in
    let start = c.args.i * most_ports in
    let rest = drop start c.args.marks.now in
    let size = start + most_ports - start in
    let mark = get_or-take size rest l.t 0 (omega (arith, length-take size rest)) ∙ get_or-drop start c.args.marks.now l.t 0 in
    again _ _ l.t l.invariant (c.gather-s.ensures ∙ ap (λ d. cond (eqb d 1) (with l.s l.t) l.s) mark)
