use borrow.Author.Rules.{rules}
use Rattle.frames.specs.Part.{most_ports}
use Rattle.shelf.proofs.Hearing.{nobody, misses, hears, all_heard}
use Rattle.shelf.proofs.hosts.hear.Goals as goal

pub loop-h-init : goal.loop-h-init
loop-h-init c = (search rules, nobody most_ports _ _)

pub loop-h-preserved-in_default : goal.loop-h-preserved-in_default
loop-h-preserved-in_default c = (search rules, misses c.loop-h.invariant.1 c.hear_host.result c.hear_host.ensures c.in_default.not-Ok)

pub loop-h-preserved : goal.loop-h-preserved
loop-h-preserved c = (search rules, hears c.loop-h.invariant.1 c.hear_host.result c.hear_host.ensures most_ports c.in-Ok.c (search rules) c.in-Ok.is)

pub returns : goal.returns
returns c = all_heard c.loop-h.invariant.1 (search rules)
