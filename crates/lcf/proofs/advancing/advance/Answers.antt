use Rattle.std.proofs.Common.{eq-eqb, ne_eqb}
use Rattle.lcf.specs.Advance.{advance}
use Rattle.lcf.proofs.advancing.advance.Goals as goal
use Rattle.lcf.proofs.advancing.advance.Goals.{then-i-eq0, else-i-eq0}

pub returns : goal.returns
unfolding advance
returns c = elim c.if-i-eq0.branch [
  | then-i-eq0 w ↦ rw (w.j-is, ← c.following-i.ensures, ← w.following-j.ensures, ← c.wrapping_add_u32.ensures.value, eq-eqb _ _ w.if-i-eq0.true)
  | else-i-eq0 w ↦ rw (w.j-is, ← c.following-i.ensures, ← c.wrapping_add_u32.ensures.value, ne_eqb _ _ w.if-i-eq0.false)
]
