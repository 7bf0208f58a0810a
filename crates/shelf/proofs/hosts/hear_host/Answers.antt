use borrow.Author.Rules.{rules}
use Rattle.shelf.specs.Hosts.{said}
use Rattle.shelf.proofs.hosts.hear_host.Goals as goal

pub host_frame-frame-requires : goal.host_frame-frame-requires
unfolding said
host_frame-frame-requires c = search rules

pub read_config-requires : goal.read_config-requires
unfolding said
read_config-requires c = search rules

pub returns : goal.returns
unfolding said
returns c = cc
