-- `trace_writer::sealing::body_fits` meets its contract.
use mathlib.Core.Path.{◌≡◌, sym, ◌∙◌}
use Prim.Native.Nat.{◌*◌, ◌-◌}
use native.Mathlib.Omega.{arith}
use Rattle.frames.specs.Part.{most_ports}
use Rattle.trace_parts.specs.Layout.{block_len, body_len}
use Rattle.trace_writer.specs.Sealing.{body_fits}
use Rattle.trace_writer.proofs.Starts.{size_is}
use Rattle.trace_writer.proofs.sealing.body_fits.Goals as goal

pub overflow_sub-len : goal.overflow_sub-len
unfolding body_len
overflow_sub-len c = let a = c.args in omega (arith, size_is most_ports a.n a.slots (sym c.ports_sound.ensures ∙ c.if-ports_sound.true) c.body_size.ensures.0)

pub overflow_sub-len-then-ports_sound : goal.overflow_sub-len-then-ports_sound
unfolding body_len
overflow_sub-len-then-ports_sound c = let a = c.args in omega (arith, size_is most_ports a.n a.slots (sym c.ports_sound.ensures ∙ c.if-ports_sound.true) c.body_size.ensures.0)

pub returns-then-ports_sound : goal.returns-then-ports_sound
unfolding body_fits body_len
returns-then-ports_sound c =
    let ports = c.ports_sound in
    let a = c.args in
    let is = size_is most_ports a.n a.slots (sym ports.ensures ∙ c.if-ports_sound.true) c.body_size.ensures.0 in
    let blocks : c.body_size.result - 3 - 2 ≡ a.slots * block_len a.n = omega arith in
    rw (blocks, ← ports.ensures, c.if-ports_sound.true, c.slots_sound.ensures, c.formed.ensures)

pub returns : goal.returns
unfolding body_fits
returns c = rw (← c.ports_sound.ensures, c.if-ports_sound.false)
