use Rattle.std.proofs.Common.{rules, mod-eq_of_lt, sym, ap, ◌∙◌}
use Rattle.laws.proofs.Loops.{again}
use Rattle.columns.specs.Planes.{more}
use Rattle.columns.specs.Transpose.{column}
use Rattle.columns.proofs.serving.counted.Goals as goal

pub loop-side-preserved : goal.loop-side-preserved
unfolding column
loop-side-preserved c = again _ _ _ c.loop-side.invariant (c.more-p.ensures ∙ ap (more c.loop-side.p) (c.from.ensures ∙ sym (mod-eq_of_lt (search rules))))
