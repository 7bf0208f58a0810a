-- `queue_entries::adding::enter` meets its contract.
use Rattle.frames.specs.Part.{most_ports}
use Rattle.queue_entries.proofs.Adds.{entered_words}
use Rattle.queue_entries.proofs.adding.enter.Goals as goal

pub returns : goal.returns
returns c =
    rw (c.from.ensures, c.requires.0, c.held-held.ensures.0)
    (entered_words most_ports c.args.words.now c.args.entry.initiator.0 c.args.entry.target.0 c.requires.1 c.requires.2)
