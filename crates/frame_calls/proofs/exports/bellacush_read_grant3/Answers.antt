-- `frame_calls::exports::bellacush_read_grant3` meets its contract.
use mathlib.Core.Path.{sym, ◌∙◌}
use native.Mathlib.Omega.{arith}
use borrow.Author.Rules.{rules}
use Rattle.frames.specs.Width.{narrow}
use Rattle.frames.specs.Held.{no_held, held_body_in_form}
use Rattle.frame_calls.proofs.Parts.{told, formed_length}
use Rattle.frame_calls.proofs.exports.bellacush_read_grant3.Goals as goal

pub show_part-requires : goal.show_part-requires
show_part-requires c =
    let is = told no_held _ _ c.read_held.ensures in
    (omega arith, λ none. formed_length _ _ (held_body_in_form narrow) _ (sym is ∙ none))

pub returns : goal.returns
returns c = rw (← told no_held _ _ c.read_held.ensures) (search rules)
