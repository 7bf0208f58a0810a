-- `frame_calls::exports::bellacush_read_config` meets its contract.
use mathlib.Core.Path.{sym, ◌∙◌}
use native.Mathlib.Omega.{arith}
use borrow.Author.Rules.{rules}
use Rattle.frames.specs.Config.{no_config}
use Rattle.frames.proofs.FrameLaws.{sound}
use Rattle.frame_calls.proofs.Parts.{told}
use Rattle.frame_calls.proofs.exports.bellacush_read_config.Goals as goal

pub show_part-requires : goal.show_part-requires
show_part-requires c =
    let is = told no_config _ _ c.read_config.ensures in
    (omega arith, λ none. (sound _ _ _ (sym is ∙ none)).long)

pub returns : goal.returns
returns c = rw (← told no_config _ _ c.read_config.ensures) (search rules)
