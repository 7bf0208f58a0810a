-- `trace_writer::listing::head_bytes` meets its contract.
use Rattle.laws.specs.Bytes.{big_endian}
use Rattle.trace_writer.proofs.listing.head_bytes.Goals as goal

pub returns : goal.returns
unfolding big_endian
returns c = rw c.two_bytes-count.ensures
