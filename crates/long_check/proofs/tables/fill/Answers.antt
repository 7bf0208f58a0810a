-- `long_check::tables::fill` meets its contract.
use native.Mathlib.Omega.{arith}
use lib.ListN.{set}
use lib.Seq.{get_or-set_same}
use Rattle.long_check.proofs.Filling.{begun, grown, shifted}
use Rattle.long_check.proofs.tables.fill.Goals as goal

pub loop-b-init : goal.loop-b-init
loop-b-init c =
    let a = c.args in
    begun a.from a.x (set a.t.now a.from 0) (get_or-set_same a.t.now a.from 0 0 (omega (arith, c.requires)))

pub loop-b-preserved : goal.loop-b-preserved
loop-b-preserved c =
    let d = c.double in
    let l = c.loop-b in
    let h = c.loop-b-test.true in
    let a = c.args in
    grown a.from a.x (set a.t.now a.from 0) l.b l.y l.t d.new.t h l.invariant (rw (shifted l.b h) at d.ensures) c.crc_bit-y.ensures
