-- `captures::packet::read_packet` meets its contract.
use borrow.Author.Tests.{le-leb, lt-leb}
use native.Mathlib.Nat.{zero-mul, zero-add}
use Rattle.laws.specs.Bytes.{number_from}
use Rattle.words.proofs.BytesAt.{one_at}
use Rattle.captures.specs.Capture.{packet_in, packet_of, long_in}
use Rattle.captures.proofs.packet.read_packet.Goals as goal

pub returns-then-bytes-lt-FRAME : goal.returns-then-bytes-lt-FRAME
unfolding packet_in
returns-then-bytes-lt-FRAME c = rw (lt-leb _ _ c.if-bytes-lt-FRAME.true)

pub returns : goal.returns
unfolding packet_in packet_of long_in number_from
returns c =
    let s = c.args.bytes.now in
    rw (le-leb _ _ c.if-bytes-lt-FRAME.false, one_at s 20 c.if-bytes-lt-FRAME.false, ← c.long_in.ensures, ← c.long_in-2.ensures, zero-mul 256, zero-add)
