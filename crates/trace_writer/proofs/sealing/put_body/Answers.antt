-- `trace_writer::sealing::put_body` meets its contract.
use mathlib.Core.Path.{◌∙◌}
use native.Mathlib.Omega.{arith}
use lib.ListN.{length, drop, length-drop}
use Rattle.laws.specs.Bytes.{big_endian}
use Rattle.trace_writer.specs.Sealing.{field_bytes, body_of}
use Rattle.trace_writer.proofs.Written.{sealed_parts}
use Rattle.trace_writer.proofs.sealing.put_body.Goals as goal

pub returns : goal.returns
unfolding body_of big_endian
returns c =
    let blocks = c.args.blocks.now in
    let rest = c.split_at_mut-fields.result.1.now in
    sealed_parts (field_bytes c.args.f) blocks (drop (length blocks) rest) _ _ _ (c.copy_from_slice.ensures.after ∙ c.field_bytes.ensures) (rw c.copy_from_slice-2.ensures.after) (length-drop (length blocks) rest ∙ omega (arith, c.requires, c.split_at_mut-fields.ensures.back_len)) c.seal.ensures
