-- `trace_parts::body::read_fields` meets its contract.
use borrow.Author.Tests.{le-leb, lt-leb}
use Rattle.trace_parts.specs.Body.{read_fields}
use Rattle.trace_parts.proofs.body.read_fields.Goals as goal

pub returns-then-body-lt-FIELDS : goal.returns-then-body-lt-FIELDS
unfolding read_fields
returns-then-body-lt-FIELDS c = rw (lt-leb _ _ c.if-body-lt-FIELDS.true)

pub returns-then-ports_sound-formed : goal.returns-then-ports_sound-formed
unfolding read_fields
returns-then-ports_sound-formed c = rw (le-leb _ _ c.if-body-lt-FIELDS.false, ← c.fields_of-fields.ensures, ← c.ports_sound.ensures, ← c.formed.ensures, c.if-ports_sound-formed.true)

pub returns : goal.returns
unfolding read_fields
returns c = rw (le-leb _ _ c.if-body-lt-FIELDS.false, ← c.fields_of-fields.ensures, ← c.ports_sound.ensures, ← c.formed.ensures, c.if-ports_sound-formed.false)
