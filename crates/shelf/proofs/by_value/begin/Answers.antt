use Rattle.hearing.specs.Heard.{tables}
use Rattle.shelf.specs.Begun.{begun_of}
use Rattle.shelf.specs.Told.{told_of}
use Rattle.shelf.proofs.by_value.begin.Goals as goal

pub returns : goal.returns
unfolding begun_of told_of tables
returns c = rw (c.start.ensures, c.listen-told.ensures)
