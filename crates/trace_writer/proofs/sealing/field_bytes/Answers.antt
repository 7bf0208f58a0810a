-- `trace_writer::sealing::field_bytes` meets its contract.
use mathlib.Core.Path.{refl}
use Rattle.laws.specs.Bytes.{big_endian}
use Rattle.trace_writer.proofs.sealing.field_bytes.Goals as goal

pub returns : goal.returns
unfolding big_endian
returns c = refl
