-- `captures::number::ByteOrder::long_in` meets its contract.
use Rattle.words.proofs.BytesAt.{four_at}
use Rattle.captures.specs.Capture.{long_in}
use Rattle.captures.proofs.number.ByteOrder.long_in.Goals as goal

pub returns-in-LowFirst : goal.returns-in-LowFirst
unfolding long_in
returns-in-LowFirst c = rw (c.in-LowFirst.is, four_at c.args.s.now c.args.at c.requires) c.of_four.ensures

pub returns-in-HighFirst : goal.returns-in-HighFirst
unfolding long_in
returns-in-HighFirst c = rw (c.in-HighFirst.is, four_at c.args.s.now c.args.at c.requires) c.of_four-in-HighFirst.ensures
