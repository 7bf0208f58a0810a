-- `trace_parts::contents::Start::count` meets its contract.
use mathlib.Core.Path.{sym, ap, ◌∙◌}
use Rattle.laws.specs.Bytes.{number}
use native.Mathlib.Omega.{arith}
use Rattle.words.proofs.BytesAt.{two_at}
use Rattle.trace_parts.specs.Contents.{count_of}
use Rattle.trace_parts.proofs.contents.Start.count.Goals as goal

pub returns : goal.returns
unfolding count_of
returns c = c.of_two.ensures ∙ ap number (sym (two_at c.args.self.now.bytes.now 1 (omega (arith, c.args.self.now.holds_head))))
