-- `captures::packet::packet_len` meets its contract.
use borrow.Author.Rules.{rules}
use Rattle.captures.specs.Capture.{packet_len}
use Rattle.captures.proofs.packet.packet_len.Goals as goal

pub returns : goal.returns
unfolding packet_len
returns c = search rules
