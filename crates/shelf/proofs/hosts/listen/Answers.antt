use borrow.Author.Rules.{rules}
use Rattle.shelf.specs.Told.{told_of}
use Rattle.shelf.proofs.hosts.listen.Goals as goal

pub hear-hosts-requires : goal.hear-hosts-requires
unfolding told_of
hear-hosts-requires c = search rules

pub count_hosts-requires : goal.count_hosts-requires
unfolding told_of
count_hosts-requires c = search rules

pub returns : goal.returns
unfolding told_of
returns c = rw (← c.hear-hosts.ensures, c.count_hosts.ensures)
