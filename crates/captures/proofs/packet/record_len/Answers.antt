-- `captures::packet::record_len` meets its contract.
use borrow.Author.Rules.{rules}
use Rattle.captures.specs.Capture.{packet_len, record_len}
use Rattle.captures.proofs.packet.record_len.Goals as goal

pub packet_len-requires : goal.packet_len-requires
unfolding packet_len record_len
packet_len-requires c = search rules

pub returns : goal.returns
unfolding packet_len record_len
returns c = search rules
