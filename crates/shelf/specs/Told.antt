-- Rules 1 and 2 on frames: who is heard, and what counts of req and pre.
use Rattle.std.specs.Prelude.{ℕ}
use Rattle.hearing.specs.Heard.{tables}
use Rattle.shelf.specs.declared.hosts.Hosts.{Hosts}
use Rattle.shelf.specs.declared.hosts.Told.{Told}

unfoldable pub told_of : ℕ → ℕ → Hosts → Told
told_of n owners hosts = record { heard = hosts.heard; tables = tables n owners hosts.heard hosts.ben hosts.req hosts.pre }
