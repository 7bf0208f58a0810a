-- `import_steps::slots::stale` meets its contract.
use Rattle.std.proofs.Common.{◌≡◌, ◌+◌, ◌-◌, ◌%◌, ◌^◌, arith}
use Rattle.import_steps.specs.Taking.{stale}
use Rattle.import_steps.proofs.slots.stale.Goals as goal

pub returns : goal.returns
unfolding stale
returns c =
    let a = c.args in
    let e : c.wrapping_sub_u32-late.result ≡ (a.last + 2 ^ 32 - a.slot) % 2 ^ 32 = omega (arith, c.wrapping_sub_u32-late.ensures.value) in
    rw e
