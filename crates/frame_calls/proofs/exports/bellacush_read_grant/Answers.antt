-- `frame_calls::exports::bellacush_read_grant` meets its contract.
use mathlib.Core.Path.{sym, ◌∙◌}
use native.Mathlib.Omega.{arith}
use borrow.Author.Rules.{rules}
use Rattle.frames.specs.Grant.{no_grant, body_in_form}
use Rattle.frame_calls.proofs.Parts.{told, formed_length}
use Rattle.frame_calls.proofs.exports.bellacush_read_grant.Goals as goal

pub show_part-requires : goal.show_part-requires
show_part-requires c =
    let is = told no_grant _ _ c.read_grant.ensures in
    (omega arith, λ none. formed_length _ _ body_in_form _ (sym is ∙ none))

pub returns : goal.returns
returns c = rw (← told no_grant _ _ c.read_grant.ensures) (search rules)
