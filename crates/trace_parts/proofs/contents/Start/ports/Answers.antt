-- `trace_parts::contents::Start::ports` meets its contract.
use Rattle.std.proofs.Common.{rules}
use native.Mathlib.Omega.{arith}
use Rattle.trace_parts.specs.Contents.{ports_of}
use Rattle.trace_parts.proofs.ContentsLaws.{byte_at}
use Rattle.trace_parts.proofs.contents.Start.ports.Goals as goal

pub returns : goal.returns
unfolding ports_of
returns c = rw (byte_at c.args.self.now.bytes.now 0 (omega (arith, c.args.self.now.holds_head))) (search rules)
