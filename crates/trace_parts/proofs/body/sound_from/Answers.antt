-- `trace_parts::body::sound_from` meets its contract.
use mathlib.Core.Path.{◌≡◌, ◌∙◌}
use Prim.Native.Nat.{◌+◌, ◌-◌}
use native.Mathlib.Omega.{arith}
use Rattle.trace_parts.proofs.BodyLaws.{cut_short, same_part}
use Rattle.trace_parts.proofs.body.sound_from.Goals as goal

pub returns-then-s-len : goal.returns-then-s-len
returns-then-s-len c =
    let a = c.args in
    cut_short _ a.n a.slots a.at a.s.now (omega (arith, c.body_size-len.ensures.0))

pub returns-then-s-len-2 : goal.returns-then-s-len-2
returns-then-s-len-2 c =
    let a = c.args in
    cut_short _ a.n a.slots a.at a.s.now (omega (arith, c.body_size-len.ensures.0))

pub returns : goal.returns
returns c =
    let a = c.args in
    let len = c.body_size-len.result in
    let long : a.at + len - a.at ≡ len = omega arith in
    (rw (long, c.body_size-len.ensures.0) at c.body_sound.ensures) ∙ same_part _ a.n a.slots a.at a.s.now
