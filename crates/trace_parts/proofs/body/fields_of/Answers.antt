-- `trace_parts::body::fields_of` meets its contract.
use Rattle.std.proofs.Common.{rules}
use native.Mathlib.Omega.{arith}
use Rattle.trace_parts.specs.Body.{fields_of}
use Rattle.trace_parts.proofs.ContentsLaws.{byte_at}
use Rattle.trace_parts.proofs.body.fields_of.Goals as goal

pub returns : goal.returns
unfolding fields_of
returns c =
    let body = c.args.body.now in
    let long = c.requires in
    rw (byte_at body 0 (omega (arith, long)), byte_at body 1 (omega (arith, long)), byte_at body 2 (omega (arith, long))) (search rules)
