-- `trace_parts::body::complete` meets its contract.
use mathlib.Core.Path.{sym, ◌∙◌}
use native.Mathlib.Omega.{arith}
use Rattle.laws.proofs.Tests.{from_to}
use Rattle.trace_parts.specs.Body.{complete}
use Rattle.trace_parts.proofs.body.complete.Goals as goal

pub body_len-requires : goal.body_len-requires
body_len-requires c =
    let few = from_to 1 _ c.args.n (sym c.ports_sound.ensures ∙ c.if-ports_sound.true) in
    omega arith

pub returns-then-ports_sound : goal.returns-then-ports_sound
unfolding complete
returns-then-ports_sound c = rw (← c.ports_sound.ensures, c.if-ports_sound.true, c.slots_sound.ensures, c.body_len.ensures.0)

pub returns : goal.returns
unfolding complete
returns c = rw (← c.ports_sound.ensures, c.if-ports_sound.false)
